-- The directory's records, and that the others hold none of them, after a change of the store.
use Prim.Native.Nat.{ℕ, ◌≤◌, ◌<◌}
use mathlib.Core.Path.{◌≡◌, sym, ap, ◌∙◌}
use mathlib.Core.Logic.{◌≢◌}
use mathlib.Core.Bool.{Bool, true, false, cond}
use lib.Dec.{leb}
use borrow.Author.Tests.{le-leb, lt-leb}
use native.Mathlib.Omega.{arith}
use lib.ListN.{get_or, length}
use Rattle.rules.specs.Memory.{null}
use Rattle.rules.specs.Free.{Free, record_at, free_session}
use Rattle.directory_rules.specs.Acts.{own_session, own_global}
use Rattle.directory_rules.specs.Table.{last_number}
use Rattle.directory_rules.specs.Directory.{group_mark, next_field, number_field}
use Rattle.directory_rules.proofs.free.Session.{same-session, shaped_from}
use Rattle.directory_rules.proofs.free.Slots.{Slot, field, written, number_at, There}
use Rattle.directory_rules.proofs.free.Held.{written_sessions, written_globals, written_global, written_records, written_plains, written_refs, written_record}
use Rattle.directory_rules.proofs.chains.Core.{others_label, refs_for, Good, Owned, Foreign, Apart, SoundStore}
use Rattle.directory_rules.proofs.chains.Labels.{Own, own-placed}

-- a record of a chain is the directory's
pub good_at : {f : Free} {lab : ℕ → ℕ} {l q : ℕ} → Owned f lab → l ≢ others_label → lab q ≡ l → Good f q
good_at {q = q} own ours mine = own q (λ e. ours (sym mine ∙ e))

pub refs-low : {w : ℕ} → w ≤ last_number → refs_for w ≡ 1
refs-low {w} small = rw (lt-leb group_mark w (omega arith))

pub refs-group : {w : ℕ} → group_mark ≤ w → refs_for w ≡ 2
refs-group {w} high = rw (le-leb group_mark w high)

pub good_there : {f : Free} {q : ℕ} → Good f q → There f (field q next_field)
good_there {f} {q} g = (g.some, g.within, rw g.refs (some (leb group_mark (number_at f q))))
  where
    some : (b : Bool) → 0 < cond b 2 1
    some true = omega arith
    some false = omega arith

-- a record with as many fields as before
pub good_from : {f g : Free} {q : ℕ} → length f.records ≤ length g.records → (record_at g q).plains ≡ (record_at f q).plains
    → length (record_at g q).refs ≡ length (record_at f q).refs → Good f q → Good g q
good_from l p r h =
    let within = h.within in
    record { some = h.some; within = omega arith; plain = ap length p ∙ h.plain; refs = r ∙ h.refs ∙ ap (λ x. refs_for (get_or x number_field 0)) (sym p) }

-- the others hold what they held
pub apart_from : {f g : Free} {lab lab' : ℕ → ℕ} → Apart f lab
    → ((n : ℕ) → n ≢ own_session → free_session g n ≡ free_session f n)
    → ((k : ℕ) → k ≢ own_global → get_or g.globals k null ≡ get_or f.globals k null)
    → ((q : ℕ) → q ≢ null → lab' q ≡ others_label → record_at g q ≡ record_at f q)
    → ((q : ℕ) → lab' q ≡ others_label → lab q ≡ others_label)
    → ((v : ℕ) → Foreign (length f.records) lab v → Foreign (length g.records) lab' v) → Apart g lab'
apart_from a s k r l h =
    record {
      registers = λ n i d. rw (s n d) (h _ (a.registers n i d));
      globals = λ i d. rw (k i d) (h _ (a.globals i d));
      fields = λ q i n e. rw (r q n e) (h _ (a.fields q i n (l q e)));
    }

-- ---- a write to a slot of the directory

own-field : (lab : ℕ → ℕ) (w : Slot) → Own lab w → (q i : ℕ) → w ≡ field q i → lab q ≢ others_label
own-field lab w o q i e = rw e at o

pub sound_written : {f : Free} {lab : ℕ → ℕ} → SoundStore f lab → (w : Slot) → Own lab w → (v : ℕ) → SoundStore (written f w v) lab
sound_written {f} {lab} h w o v =
    let size = written_records f w v in
    record {
      shaped = shaped_from f (written f w v) (written_sessions f w v) (written_globals f w v) h.shaped;
      own = λ q l. good_from (omega arith) (written_plains f w v q) (written_refs f w v q) (h.own q l);
      apart = apart_from h.apart (λ n d. same-session f (written f w v) (written_sessions f w v) n) (λ k d. written_global f w v k d)
          (λ q n e. written_record f w v q (own-placed h.own w o) n (λ i z. own-field lab w o q i z e)) (λ q e. e) (λ x y. rw size y);
    }
