-- The members of the group in its register: the walk that looks for one, and one less.
use Prim.Native.Nat.{ℕ, ◌+◌, ◌≤◌}
use mathlib.Core.Path.{◌≡◌, sym, ap, ◌∙◌}
use mathlib.Core.Logic.{◌≢◌}
use mathlib.Core.Bool.{true, false}
use mathlib.Core.List.{List, ◌∷◌, ◌++◌, map, Memᴰ}
use native.Mathlib.Omega.{arith}
use lib.ListN.{length, get_or, length-append}
use Rattle.rules.specs.Control.{register_count}
use Rattle.rules.specs.Refusals.{passed}
use Rattle.rules.specs.Free.{Free}
use Rattle.directory_rules.specs.Table.{Table, among, paired, unpair, with_pairs}
use Rattle.directory_rules.specs.Acts.{load, Performed}
use Rattle.directory_rules.specs.Directory.{members, link, cut, group_mark, group_register, first_field, next_field, number_field, other_of}
use Rattle.directory_rules.specs.declared.Place.{Place}
use Rattle.directory_rules.proofs.Lists.{map_same}
use Rattle.directory_rules.proofs.tables.Pairs.{paired-members}
use Rattle.directory_rules.proofs.free.Session.{reg, set_reg, Ready, OnlyRegs}
use Rattle.directory_rules.proofs.free.Slots.{Slot, field, held, number_at, slot_of, slot_after, written}
use Rattle.directory_rules.proofs.free.Registers.{reg_same, reg_other, set_only, only_ready, only_held, only_there, only_number}
use Rattle.directory_rules.proofs.free.Held.{written_plains}
use Rattle.directory_rules.proofs.free.Commute.{only_written, written_reg, written_ready}
use Rattle.directory_rules.proofs.free.Perform.{free_perform}
use Rattle.directory_rules.proofs.free.Must.{must-done}
use Rattle.directory_rules.proofs.free.Steps.{load_step, link-step}
use Rattle.directory_rules.proofs.chains.Laws.{chain_first, chain_rest}
use Rattle.directory_rules.proofs.chains.Core.{Layout, Core, Short, link_label, with_links}
use Rattle.directory_rules.proofs.chains.SoundStore.{good_there}
use Rattle.directory_rules.proofs.chains.Entries.{first_there, links_there, link_good, group_words}
use Rattle.directory_rules.proofs.chains.Registers.{core_regs}
use Rattle.directory_rules.proofs.chains.Cutting.{core_unlink}
use Rattle.directory_rules.proofs.walks.Walked.{Walked, place_of}
use Rattle.directory_rules.proofs.walks.Slots.{slot_same}
use Rattle.directory_rules.proofs.walks.Seek.{members_walks}
use Rattle.directory_rules.proofs.calls.Kept.{Within, within_ready, within_regs}
use Rattle.directory_rules.proofs.calls.Found.{FoundAt, found_in, there, found_among, passed-all}

-- ---- one looked for

-- where a walk over the links of the group at place q has come to
pub record MemberAt (f : Free) (n q : ℕ) (links : List ℕ) (x : Place) : Type 0 where
  pub low : x.at ≤ 1
  pub found : x.found ≡ among n (map (number_at f) links)
  pub before : List ℕ
  pub slot : slot_of f x.at x.via ≡ slot_after (field q first_field) before
  pub at_hand : reg f x.at ≡ held f (slot_after (field q first_field) before)
  pub absent : x.found ≡ false → before ≡ links
  pub present : x.found ≡ true → FoundAt f n links before

-- the walk made, within a call
pub record Sought (m : ℕ) (y : Layout) (t : Table) (f : Free) (n q : ℕ) (p : Performed Free Place) : Type 0 where
  pub after : Free
  pub position : Place
  pub ended : p ≡ record { store = after; result = passed position }
  pub regs : OnlyRegs 2 f after
  pub within : Within m after y t
  pub at : MemberAt after n q (y.links q) position

module _ {m : ℕ} {f : Free} {y : Layout} {t : Table} (within : Within m f y t) (two : 2 ≤ m) where
  from-walk : {half n q : ℕ} {p : Performed Free Place} → Walked f (field q first_field) (y.links q) n 0 half p → Sought m y t f n q p
  from-walk {half} {n} {q} w =
      record {
        after = w.after;
        position = place_of w;
        ended = w.ended;
        regs = w.regs;
        within = within_regs w.regs two within;
        at = record {
          low = w.low;
          found = found_among w ∙ ap (among n) (map_same (y.links q) (λ x j. sym (only_number w.regs x)));
          before = w.xs;
          slot = w.slot;
          at_hand = w.here ∙ sym (only_held w.regs (slot_after (field q first_field) w.xs));
          absent = λ z. passed-all w z;
          present = λ z. let h = there w z in record {
            record_at = h.record_at;
            rest = h.rest;
            split = h.split;
            number = only_number w.regs h.record_at ∙ h.number;
          };
        };
      }

  pub members-sought : (fed : ℕ) {half : ℕ} → Short half y → (n q : ℕ) → Memᴰ q y.groups → reg f group_register ≡ q
      → Sought m y t f n q (free_perform fed f (members half n))
  members-sought fed {half} short n q i e =
      let c = within.core in
      from-walk (members_walks fed (within_ready within) c.store.own {l = link_label q} (λ z. omega arith) half n e (first_there c i) (c.linked q i).chain (short.links q i))

-- whether one was found is whether the table has the pair
pub member_paired : {m : ℕ} {f : Free} {y : Layout} {t : Table} {q : ℕ} {x : Place} (n g : ℕ) → Within m f y t → Memᴰ q y.groups
    → number_at f q ≡ group_mark + g → MemberAt f n q (y.links q) x → x.found ≡ paired n g t.pairs
member_paired {t = t} n g within i e w = w.found ∙ ap (among n) (group_words within.core i g e) ∙ sym (paired-members n g t.pairs)

-- ---- one less

-- what is left where the link looked for is cut
pub record CutEnds (m : ℕ) (y : Layout) (t : Table) (f : Free) (n g q : ℕ) (p : Performed Free (Unit {0})) : Type 0 where
  pub after : Free
  pub links : List ℕ
  pub shorter : length links ≤ length (y.links q)
  pub ended : p ≡ record { store = after; result = passed tt }
  pub within : Within m after (with_links y q links) (with_pairs t (unpair n g t.pairs))
  pub kept : (k : ℕ) → 2 ≤ k → reg after k ≡ reg f k
  pub numbers : (x : ℕ) → number_at after x ≡ number_at f x

module _ {m : ℕ} {f : Free} {y : Layout} {t : Table} (within : Within m f y t) (two : 2 ≤ m) (few : m ≤ register_count) (n g q : ℕ)
    (member : Memᴰ q y.groups) (number : number_at f q ≡ group_mark + g) (x : Place) (w : MemberAt f n q (y.links q) x) (l : FoundAt f n (y.links q) w.before) where
  abbrev c : Core f y t
  c = within.core

  abbrev slot : Slot
  slot = slot_after (field q first_field) w.before

  abbrev next : ℕ
  next = held f (field l.record_at next_field)

  -- the link is in the register at hand
  link_here : reg f x.at ≡ l.record_at
  link_here = w.at_hand ∙ chain_first (chain_rest w.before (l.record_at ∷ l.rest) (rw l.split at (c.linked q member).chain))

  -- what comes after it there
  abbrev loaded : Free
  loaded = set_reg f x.at next

  loaded_only : OnlyRegs 2 f loaded
  loaded_only = set_only f x.at next c.store.shaped 2 (omega (arith, w.low))

  loaded_ready : Ready loaded
  loaded_ready = only_ready loaded_only (within_ready within)

  loaded_reg : (k : ℕ) → k ≢ x.at → reg loaded k ≡ reg f k
  loaded_reg = reg_other f x.at next c.store.shaped

  linked : (fed : ℕ) → free_perform fed loaded (link x.at x.via x.at) ≡ record { store = written loaded slot next; result = passed tt }
  linked fed = link-step fed loaded_ready x.at x.via x.at w.low (omega (arith, w.low))
      (slot_same f loaded x.at x.via (loaded_reg (other_of x.at) (λ e. omega (arith, w.low))) (loaded_reg group_register (λ e. omega (arith, w.low))) ∙ w.slot)
      (reg_same f x.at next c.store.shaped (omega (arith, w.low)))
      (only_there loaded_only slot (links_there c member w.before (l.record_at ∷ l.rest) l.split))

  -- the registers above those of the walk
  kept_reg : (k : ℕ) → 2 ≤ k → reg (written loaded slot next) k ≡ reg f k
  kept_reg k b = written_reg loaded slot next k ∙ loaded_reg k (λ e. omega (arith, w.low))

  pub cut_ends : (fed : ℕ) → CutEnds m y t f n g q (free_perform fed f (cut x.at x.via))
  cut_ends fed = record {
    after = written loaded slot next;
    links = w.before ++ l.rest;
    shorter = rw l.split (simp length-append (omega arith));
    ended = must-done fed f (load x.at x.at next_field) (λ u. link x.at x.via x.at)
        (load_step fed (within_ready within) x.at x.at next_field (omega (arith, w.low)) (omega (arith, w.low)) link_here (good_there (link_good c member (found_in l))))
        ∙ linked fed;
    within = record {
      core = core_regs (only_written loaded_only slot next) (core_unlink c n g q l.record_at w.before l.rest member number l.split l.number);
      attached = (written_ready loaded slot next loaded_ready).attached;
      opened = within.opened;
      above = λ k b. kept_reg k (omega arith) ∙ within.above k b;
    };
    kept = kept_reg;
    numbers = λ z. ap (λ (ps : List ℕ). get_or ps number_field 0) (written_plains loaded slot next z) ∙ only_number loaded_only z;
  }
