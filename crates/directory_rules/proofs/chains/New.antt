-- A new record of the directory, in no chain yet.
use Prim.Native.Nat.{ℕ, suc, ◌<◌}
use mathlib.Core.Path.{◌≡◌, refl, sym, ap, ◌∙◌}
use mathlib.Core.Logic.{◌≢◌}
use mathlib.Core.List.{[], ◌∷◌}
use native.Mathlib.Omega.{arith}
use borrow.Author.Tests.{eq-eqb, ne_eqb}
use lib.ListN.{get_or, length, length-replicate}
use Rattle.rules.specs.Memory.{null}
use Rattle.rules.specs.Free.{Free, record_at}
use Rattle.rules.specs.Tracking.{update}
use Rattle.rules.proofs.memory.Cases.{eq_or}
use Rattle.directory_rules.specs.Table.{Table}
use Rattle.directory_rules.specs.Acts.{own_global}
use Rattle.directory_rules.specs.Directory.{number_field}
use Rattle.directory_rules.proofs.free.Session.{same-session, shaped_from}
use Rattle.directory_rules.proofs.free.Slots.{Slot, top, field, held, written, number_at, grow, new_place, There}
use Rattle.directory_rules.proofs.free.Held.{written_sessions, written_field-globals, written_records, written_plains, written_refs, written_record, grow_record, grow_new, grow_length}
use Rattle.directory_rules.proofs.chains.Core.{others_label, refs_for, Good, SoundStore, Layout, Core}
use Rattle.directory_rules.proofs.chains.Labels.{Own}
use Rattle.directory_rules.proofs.chains.SoundStore.{good_from, apart_from}
use Rattle.directory_rules.proofs.chains.Frame.{relabelled, core_frame}

-- g is f with one record more, of r references and with the word n
pub record New (f g : Free) (r n : ℕ) : Type 0 where
  pub sessions : g.sessions ≡ f.sessions
  pub globals : g.globals ≡ f.globals
  pub records : length g.records ≡ suc (length f.records)
  pub old : (q : ℕ) → q ≢ null → q ≢ new_place f → record_at g q ≡ record_at f q
  pub word : (record_at g (new_place f)).plains ≡ n ∷ []
  pub refs : length (record_at g (new_place f)).refs ≡ r

pub new_grow : (f : Free) (r n : ℕ) → New f (grow f r n) r n
new_grow f r n =
    record {
      sessions = refl;
      globals = refl;
      records = grow_length f r n;
      old = grow_record f r n;
      word = ap (λ x. x.plains) (grow_new f r n);
      refs = ap (λ x. length x.refs) (grow_new f r n) ∙ length-replicate r null;
    }

pub new_word : {f g : Free} {r n : ℕ} → New f g r n → number_at g (new_place f) ≡ n
new_word new = ap (λ x. get_or x number_field 0) new.word

pub new_there : {f g : Free} {r n : ℕ} → New f g r n → (i : ℕ) → i < r → There g (field (new_place f) i)
new_there new i l = let size = new.records in (omega arith, omega arith, rw new.refs l)

-- a field of the new record written
pub new_field : {f g : Free} {r n : ℕ} → New f g r n → (i v : ℕ) → New f (written g (field (new_place f) i) v) r n
new_field {f} {g} h i v =
    let p = new_place f in
    let w = field p i in
    record {
      sessions = written_sessions g w v ∙ h.sessions;
      globals = written_field-globals g p i v ∙ h.globals;
      records = written_records g w v ∙ h.records;
      old = λ q n d. written_record g w v q (λ e. omega arith) n (λ j e. d (let z : p ≡ q = cc in sym z)) ∙ h.old q n d;
      word = written_plains g w v p ∙ h.word;
      refs = written_refs g w v p ∙ h.refs;
    }

-- ---- labels

pub update_new : (m : ℕ → ℕ) (p l : ℕ) → update m p l p ≡ l
unfolding update
update_new m p l = rw (eq-eqb p p refl)

update_old : (m : ℕ → ℕ) (p l q : ℕ) → q ≢ p → update m p l q ≡ m q
unfolding update
update_old m p l q d = rw (ne_eqb q p d)

-- a place more with a label of the directory
pub stays_new : (lab : ℕ → ℕ) (p l : ℕ) → l ≢ others_label → (q : ℕ) → lab q ≢ others_label → update lab p l q ≢ others_label
stays_new lab p l d q o e = eq_or q p
    (λ z. d (sym (update_new lab p l) ∙ (rw z at e)))
    (λ z. o (sym (update_old lab p l q z) ∙ e))

-- ---- the new record is the directory's

module _ {f g : Free} {lab : ℕ → ℕ} (h : SoundStore f lab) {r n : ℕ} (new : New f g r n) where
  own_old : (q : ℕ) → lab q ≢ others_label → q ≢ new_place f
  own_old q o e = let within = (h.own q o).within in omega arith

  own_record : (q : ℕ) → lab q ≢ others_label → record_at g q ≡ record_at f q
  own_record q o = new.old q (λ e. let some = (h.own q o).some in omega arith) (own_old q o)

  module _ (fields : r ≡ refs_for n) (l : ℕ) (d : l ≢ others_label) where
    new_good : Good g (new_place f)
    new_good =
        let size = new.records in
        record { some = omega arith; within = omega arith; plain = ap length new.word; refs = new.refs ∙ fields ∙ ap refs_for (sym (new_word new)) }

    not_new : (q : ℕ) → update lab (new_place f) l q ≡ others_label → q ≢ new_place f
    not_new q e z = d (sym (update_new lab (new_place f) l) ∙ (rw z at e))

    sound-grown : SoundStore g (update lab (new_place f) l)
    sound-grown =
        let size = new.records in
        let p = new_place f in
        record {
          shaped = shaped_from f g new.sessions (ap length new.globals) h.shaped;
          own = λ q o. eq_or q p (λ e. rw e new_good) (λ z.
              let old = rw (update_old lab p l q z) at o in
              good_from (omega arith) (ap (λ x. x.plains) (own_record q old)) (ap (λ x. length x.refs) (own_record q old)) (h.own q old));
          apart = apart_from h.apart (λ m z. same-session f g new.sessions m) (λ k z. ap (λ x. get_or x k null) new.globals)
              (λ q z e. new.old q z (not_new q e))
              (λ q e. sym (update_old lab p l q (not_new q e)) ∙ e)
              (λ v x. let within = x.within in
              record { label = update_old lab p l v (λ z. omega arith) ∙ x.label; within = omega arith });
        }

module _ {f g : Free} {y : Layout} {t : Table} (c : Core f y t) {r n : ℕ} (new : New f g r n) where
  pub core_new : r ≡ refs_for n → (l : ℕ) → l ≢ others_label → Core g (relabelled y (update y.label (new_place f) l)) t
  core_new fields l d =
      let h = c.store in
      core_frame c (sound-grown h new fields l d) (ap (λ x. get_or x own_global null) new.globals) (own_record h new)
      (λ q o. update_old y.label (new_place f) l q (own_old h new q o))

  pub new_number : (q : ℕ) → y.label q ≢ others_label → number_at g q ≡ number_at f q
  new_number q o = ap (λ x. get_or x.plains number_field 0) (own_record c.store new q o)

  -- the slots of the chains are none of the new record's, and hold what they held
  pub new_away : (s : Slot) → Own y.label s → (i : ℕ) → field (new_place f) i ≢ s
  new_away top o i e = let z : ◌≡◌ {A = ℕ} 0 1 = cc in omega arith
  new_away (field q j) o i e = let z : new_place f ≡ q = cc in own_old c.store new q o (sym z)

  pub new_held : (s : Slot) → Own y.label s → held g s ≡ held f s
  new_held top o = ap (λ x. get_or x own_global null) new.globals
  new_held (field q i) o = ap (λ x. get_or x.refs i null) (own_record c.store new q o)
