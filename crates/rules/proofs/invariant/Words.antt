-- Words that name records: null or a start, the half that they name, whether they name a white record; forwarding as a function.
use Prim.Native.Nat.{ℕ, ◌+◌, ◌-◌}
use mathlib.Core.Path.{◌≡◌}
use mathlib.Core.Logic.{◌≢◌}
use mathlib.Core.Bool.{cond, ◌||◌}
use mathlib.Core.List.{List}
use lib.Dec.{eqb}
use lib.ListN.{get_or}
use Rattle.rules.specs.Memory.{Memory, null, half_of, in_half, white, black, word, colour, replica, refs, size, ref_field, plain_field, copy_of}
use Rattle.rules.specs.Phases.{absent}
use Rattle.rules.specs.Free.{Record, FreeSession, no_record, free_absent}
use Rattle.rules.specs.declared.Session.{Session}
use Rattle.rules.proofs.memory.Records.{Start}

-- a record of half h
pub record In (M : Memory) (h v : ℕ) : Type 0 where
  pub start : Start M v
  pub side : half_of v ≡ h

-- null, or the reference of a record
pub data Ok (M : Memory) (v : ℕ) : Type 0 where
  ok_null : v ≡ null → Ok M v
  ok_start : Start M v → Ok M v

-- v names half h, where it isn't null
abbrev pub Names : ℕ → ℕ → Type 0
Names h v = v ≢ null → half_of v ≡ h

-- v names no white record of half h
abbrev pub Clean : Memory → ℕ → ℕ → Type 0
Clean M h v = v ≢ null → half_of v ≡ h → colour M v ≢ white

-- the fields of a record
abbrev pub field : Memory → ℕ → ℕ → ℕ
field M v i = word M v (ref_field i)

abbrev pub plain_of : Memory → ℕ → ℕ → ℕ
plain_of M v i = word M v (plain_field (refs M v) i)

-- what forwarding gives where it isn't refused
unfoldable pub fwd : Memory → ℕ → ℕ → ℕ
fwd M to u = cond (eqb u null || in_half to u) u (copy_of M u)

-- 1 for a record that isn't white, and the size of a record with a replica: what is counted
unfoldable pub marks : Memory → ℕ → ℕ
marks M v = cond (eqb (colour M v) white) 0 1

unfoldable pub copied : Memory → ℕ → ℕ
copied M v = cond (eqb (replica M v) null) 0 (size M v)

-- the steps that HeapMark spends on a record, all of them once it is black
abbrev pub work : Memory → ℕ → ℕ
work M v = refs M v + 1

unfoldable pub done : Memory → ℕ → ℕ
done M v = cond (eqb (colour M v) black) (work M v) 0

-- registers by session and number, and the record of a place
abbrev pub reg : List Session → ℕ → ℕ → ℕ
reg xs n k = get_or (get_or xs n absent).registers k null

abbrev pub freg : List FreeSession → ℕ → ℕ → ℕ
freg ys n k = get_or (get_or ys n free_absent).registers k null

abbrev pub rec_of : List Record → ℕ → Record
rec_of rs q = get_or rs (q - 1) no_record
