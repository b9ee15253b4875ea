-- Runs, beside the collector-free store: which of its records each reference stands for, what its registers and globals reach,
-- and the records that a half holds.
use Rattle.std.specs.Prelude.{ℕ, zero, suc, ◌+◌, ◌≢◌, cond, List, [], ◌∷◌, ltb, eqb, get_or, length}
use Rattle.rules.specs.Memory.{Memory, frontier, null, reference, size, size_of, next_reference}
use Rattle.rules.specs.Control.{Store}
use Rattle.rules.specs.Collector.{walked}
use Rattle.rules.specs.Runs.{Call, apply, is_session, is_allocation, fed_by}
use Rattle.rules.specs.Free.{Free, record_at, free_session, free_register, free_apply, new_free}

-- ---- tracked places

-- a store, the collector-free store beside it, and the place in its list of the record that a reference stands for
pub record Beside : Type 0 where
  pub store : Store
  pub free : Free
  pub place : ℕ → ℕ

-- the function with one value changed
unfoldable pub update : (ℕ → ℕ) → ℕ → ℕ → ℕ → ℕ
update m v q u = cond (eqb u v) q (m u)

-- a record written at the frontier of half h, from M to M', gets the place q
unfoldable pub track_half : Memory → Memory → ℕ → ℕ → (ℕ → ℕ) → ℕ → ℕ
track_half M M' h q m = cond (ltb (frontier M h) (frontier M' h)) (update m (next_reference M h) q) m

-- an allocation gives each copy that it wrote the new place; a step that makes a shell gives it the place of the record
-- that it was made for; nothing else changes a place
unfoldable pub track : Beside → Call → (ℕ → ℕ)
track b c =
    let M = b.store.memory in
    let M' = (apply b.store c).store.memory in
    let q = cond (is_allocation c) (suc (length b.free.records)) (b.place (walked b.store)) in
    track_half M M' 0 q (track_half M M' 1 q b.place)

-- one call on both stores
abbrev pub beside_call : Beside → Call → Beside
beside_call b c =
    record {
      store = (apply b.store c).store;
      free = cond (is_session c) (free_apply b.free c (fed_by (apply b.store c).reply)).store b.free;
      place = track b c;
    }

abbrev pub beside : Beside → List Call → Beside
beside b [] = b
beside b (c ∷ cs) = beside (beside_call b c) cs

-- a newly made store beside a new collector-free store; null has place 0
abbrev pub new_beside : Store → Beside
new_beside s = record { store = s; free = new_free; place = λ v. 0 }

-- ---- reaching

-- the places that some register or some global reaches, over reference fields
pub data Reached (f : Free) : ℕ → Type 0 where
  by_register : (n k : ℕ) → free_register (free_session f n) k ≢ null → Reached f (free_register (free_session f n) k)
  by_global : (g : ℕ) → get_or f.globals g null ≢ null → Reached f (get_or f.globals g null)
  by_field : (q i : ℕ) → Reached f q → get_or (record_at f q).refs i null ≢ null → Reached f (get_or (record_at f q).refs i null)

-- ---- the records of a half

-- the references of the records of half h from word k on, in order; n bounds their number
abbrev pub records_from : ℕ → Memory → ℕ → ℕ → List ℕ
records_from zero M h k = []
records_from (suc n) M h k =
    cond (ltb k (frontier M h)) (reference h k ∷ records_from n M h (k + size M (reference h k))) []

unfoldable pub records_of : Memory → ℕ → List ℕ
records_of M h = records_from (frontier M h) M h 0

-- the words of the records at these places
abbrev pub words_at : Free → List ℕ → ℕ
words_at f [] = 0
words_at f (q ∷ qs) = size_of (length (record_at f q).refs) (length (record_at f q).plains) + words_at f qs
