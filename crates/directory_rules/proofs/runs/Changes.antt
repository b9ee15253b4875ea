-- The changes that other sessions make: each is beside the directory.
use Prim.Native.Nat.{ℕ, ◌-◌, ◌≤◌}
use mathlib.Core.Path.{◌≡◌, refl, sym, ap, ◌∙◌}
use mathlib.Core.Logic.{◌≢◌}
use mathlib.Core.List.{[], ◌∷◌, ◌++◌}
use native.Mathlib.Nat.{le_refl}
use native.Mathlib.Omega.{arith}
use lib.ListN.{get_or, set, length, replicate, length-set, length-append, get_or-append}
use lib.Seq.{get_or-set_other}
use Rattle.rules.specs.Memory.{null}
use Rattle.rules.specs.Free.{Free, FreeSession, Record, no_record, record_at, with_record, free_absent, free_session, free_register, with_free_session, with_free_register}
use Rattle.rules.proofs.memory.Cases.{eq_or}
use Rattle.rules.proofs.memory.Lists.{all_same}
use Rattle.directory_rules.specs.Acts.{own_session, own_global}
use Rattle.directory_rules.proofs.Lists.{set_holds, append_holds}
use Rattle.directory_rules.proofs.free.Slots.{new_place}
use Rattle.directory_rules.proofs.chains.Core.{others_label, Good, Owned, Foreign, Apart}
use Rattle.directory_rules.proofs.runs.Aside.{Aside}

-- places of no record of the directory: null, and the one that a new record gets; and what may be held among fewer records
not_ours : {f : Free} {lab : ℕ → ℕ} → Owned f lab → (v : ℕ) → (Good f v → ⊥) → lab v ≡ others_label
not_ours {lab = lab} own v bad = eq_or (lab v) others_label (λ e. e) (λ ours. absurd (bad (own v ours)))

pub null_foreign : {f : Free} {lab : ℕ → ℕ} → Owned f lab → Foreign (length f.records) lab null
null_foreign own = record { label = not_ours own null (λ g. omega (arith, g.some)); within = omega arith }

foreign_more : {a b : ℕ} {lab : ℕ → ℕ} {v : ℕ} → a ≤ b → Foreign a lab v → Foreign b lab v
foreign_more l h = record { label = h.label; within = omega (arith, h.within) }

pub new_foreign : {f : Free} {lab : ℕ → ℕ} → Owned f lab → (x : Record) → Foreign (length (f.records ++ (x ∷ []))) lab (new_place f)
new_foreign {f} own x = record { label = not_ours own (new_place f) (λ g. omega (arith, g.within)); within = omega (arith, length-append f.records (x ∷ [])) }

pub aside_then : {lab : ℕ → ℕ} {f g h : Free} → Aside lab f g → Aside lab g h → Aside lab f h
aside_then a b = record {
  sessions = b.sessions ∙ a.sessions;
  session = b.session ∙ a.session;
  globals = b.globals ∙ a.globals;
  global = b.global ∙ a.global;
  longer = omega (arith, a.longer, b.longer);
  records = λ q ours. b.records q ours ∙ a.records q ours;
  apart = b.apart;
}

module _ {lab : ℕ → ℕ} {f : Free} (apart : Apart f lab) where
  pub aside_none : Aside lab f f
  aside_none = record { sessions = refl; session = refl; globals = refl; global = refl; longer = le_refl _; records = λ q ours. refl; apart = apart }

  -- a session other than the directory's
  pub aside_session : (n : ℕ) (x : FreeSession) → n ≢ own_session → ((k : ℕ) → Foreign (length f.records) lab (free_register x k))
      → Aside lab f (with_free_session f n x)
  unfolding free_session record_at
  aside_session n x other theirs = record {
    sessions = length-set f.sessions n x;
    session = get_or-set_other f.sessions n own_session x free_absent (λ e. other (sym e));
    globals = refl;
    global = refl;
    longer = le_refl _;
    records = λ q ours. refl;
    apart = record {
      registers = λ m k d. set_holds (λ z. Foreign (length f.records) lab (free_register z k)) f.sessions n x free_absent m (theirs k) (apart.registers m k d);
      globals = apart.globals;
      fields = apart.fields;
    };
  }

  -- one register of it
  pub aside_register : (n k q : ℕ) → n ≢ own_session → Foreign (length f.records) lab q → Aside lab f (with_free_register f n k q)
  unfolding with_free_register free_register
  aside_register n k q other theirs = aside_session n _ other
      (λ j. set_holds (Foreign (length f.records) lab) (free_session f n).registers k q null j theirs (apart.registers n j other))

  -- a global other than the directory's
  pub aside_global : (g q : ℕ) → g ≢ own_global → Foreign (length f.records) lab q
      → Aside lab f (record { sessions = f.sessions; globals = set f.globals g q; records = f.records })
  unfolding free_session record_at
  aside_global g q other theirs = record {
    sessions = refl;
    session = refl;
    globals = length-set f.globals g q;
    global = get_or-set_other f.globals g own_global q null (λ e. other (sym e));
    longer = le_refl _;
    records = λ p ours. refl;
    apart = record {
      registers = apart.registers;
      globals = λ i d. set_holds (Foreign (length f.records) lab) f.globals g q null i theirs (apart.globals i d);
      fields = apart.fields;
    };
  }

  -- a record that isn't the directory's
  pub aside_record : Owned f lab → (q : ℕ) (x : Record) → q ≢ null → lab q ≡ others_label → ((i : ℕ) → Foreign (length f.records) lab (get_or x.refs i null))
      → Aside lab f (with_record f q x)
  unfolding free_session record_at with_record
  aside_record own q x some other theirs = record {
    sessions = refl;
    session = refl;
    globals = refl;
    global = refl;
    longer = same;
    records = λ p ours. get_or-set_other f.records (q - 1) (p - 1) x no_record (λ e. ours (ap lab (places p ours e) ∙ other));
    apart = record {
      registers = λ n k d. foreign_more same (apart.registers n k d);
      globals = λ g d. foreign_more same (apart.globals g d);
      fields = λ p i z d. foreign_more same
          (set_holds (λ x. Foreign (length f.records) lab (get_or x.refs i null)) f.records (q - 1) x no_record (p - 1) (theirs i) (apart.fields p i z d));
    };
  }
    where
      same : length f.records ≤ length (set f.records (q - 1) x)
      same = omega (arith, length-set f.records (q - 1) x)

      places : (p : ℕ) → lab p ≢ others_label → p - 1 ≡ q - 1 → p ≡ q
      places p ours e = let l = (own p ours).some in omega arith

  -- a new record
  pub aside_grown : Owned f lab → (r p : ℕ)
      → Aside lab f (record { sessions = f.sessions; globals = f.globals; records = f.records ++ (record { refs = replicate r null; plains = replicate p 0 } ∷ []) })
  unfolding free_session record_at
  aside_grown own r p = record {
    sessions = refl;
    session = refl;
    globals = refl;
    global = refl;
    longer = more;
    records = λ q ours. get_or-append f.records _ no_record (q - 1) (let g = own q ours in omega (arith, g.some, g.within));
    apart = record {
      registers = λ n k d. foreign_more more (apart.registers n k d);
      globals = λ g d. foreign_more more (apart.globals g d);
      fields = λ q i z d. foreign_more more
          (append_holds (λ x. Foreign (length f.records) lab (get_or x.refs i null)) f.records _ no_record (q - 1)
          (all_same (Foreign (length f.records) lab) null null (null_foreign own) (null_foreign own) r i) (apart.fields q i z d));
    };
  }
    where
      more : length f.records ≤ length (f.records ++ (record { refs = replicate r null; plains = replicate p 0 } ∷ []))
      more = omega (arith, length-append f.records (record { refs = replicate r null; plains = replicate p 0 } ∷ []))
