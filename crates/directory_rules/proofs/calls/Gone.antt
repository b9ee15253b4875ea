-- A person leaves the group in its register, if a member: what the store and the table have lost, and what stays.
use Prim.Native.Nat.{ℕ, ◌+◌, ◌≤◌, ◌<◌}
use mathlib.Core.Path.{◌≡◌, sym, ap, ◌∙◌}
use mathlib.Core.Bool.{Bool, true, false, cond}
use mathlib.Core.List.Memᴰ
use mathlib.Core.List.{List, [], ◌∷◌, Memᴰ}
use native.Mathlib.Omega.{arith}
use lib.Dec.{eqb}
use lib.ListN.{length}
use Rattle.rules.specs.Control.{register_count}
use Rattle.rules.specs.Refusals.{passed}
use Rattle.rules.specs.Free.{Free}
use Rattle.rules.proofs.memory.Cases.{bool_or}
use Rattle.directory_rules.specs.Table.{Table, with_pairs}
use Rattle.directory_rules.specs.Acts.{Act, load, must, ◌>>=◌, ◌>>◌, Performed}
use Rattle.directory_rules.specs.Directory.{place, members, cut_found, group_mark, group_register, next_field}
use Rattle.directory_rules.specs.declared.Place.{Place}
use Rattle.directory_rules.proofs.tables.Pairs.{unpair_none, unpair_all}
use Rattle.directory_rules.proofs.free.Session.{reg, set_reg, OnlyRegs}
use Rattle.directory_rules.proofs.free.Slots.{field, held, number_at}
use Rattle.directory_rules.proofs.free.Registers.{reg_held, set_only, only_number}
use Rattle.directory_rules.proofs.free.Perform.{free_perform}
use Rattle.directory_rules.proofs.free.Must.{must_last}
use Rattle.directory_rules.proofs.free.Steps.{load_step}
use Rattle.directory_rules.proofs.free.Sequence.{then_passed}
use Rattle.directory_rules.proofs.chains.Core.{Layout, Short, update_list}
use Rattle.directory_rules.proofs.chains.SoundStore.{good_there}
use Rattle.directory_rules.proofs.chains.Entries.{entry_good}
use Rattle.directory_rules.proofs.calls.Kept.{Within, within_ready, within_regs}
use Rattle.directory_rules.proofs.calls.Members.{Sought, members-sought, member_paired, cut_ends}

-- other links of all groups
abbrev pub with_all_links : Layout → (ℕ → List ℕ) → Layout
with_all_links y ls = record { groups = y.groups; people = y.people; links = ls; label = y.label }

-- from f to g, within a call of r registers, person n has left the groups of numbers ns; the registers from m on are as they were
pub record Gone (r m half n : ℕ) (ns : List ℕ) (f : Free) (y : Layout) (t : Table) (g : Free) : Type 0 where
  pub links : ℕ → List ℕ
  pub within : Within r g (with_all_links y links) (with_pairs t (unpair_all n ns t.pairs))
  pub kept : (k : ℕ) → m ≤ k → reg g k ≡ reg f k
  pub numbers : (q : ℕ) → number_at g q ≡ number_at f q
  pub short : Short half (with_all_links y links)

-- an act after which it is so
pub record Leaves (r m half n : ℕ) (ns : List ℕ) (f : Free) (y : Layout) (t : Table) (p : Performed Free (Unit {0})) : Type 0 where
  pub after : Free
  pub ended : p ≡ record { store = after; result = passed tt }
  pub gone : Gone r m half n ns f y t after

module _ {r half n : ℕ} {y : Layout} {t : Table} where
  -- there was nothing to leave
  pub gone_same : {m : ℕ} (ns : List ℕ) {f g : Free} → unpair_all n ns t.pairs ≡ t.pairs → Within r g y t → Short half y → OnlyRegs m f g
      → Gone r m half n ns f y t g
  gone_same ns e within short o = record { links = y.links; within = rw e within; kept = o.above; numbers = only_number o; short = short }

  -- registers changed after it
  gone_regs : {m k : ℕ} {ns : List ℕ} {f g h : Free} → m ≤ k → k ≤ r → Gone r m half n ns f y t g → OnlyRegs k g h → Gone r k half n ns f y t h
  gone_regs l b x o = record {
    links = x.links;
    within = within_regs o b x.within;
    kept = λ j d. o.above j d ∙ x.kept j (omega arith);
    numbers = λ q. only_number o q ∙ x.numbers q;
    short = x.short;
  }

  -- after one group, the others
  pub leaves_then : {m a : ℕ} {ns : List ℕ} {f g : Free} {p p' : Performed Free (Unit {0})} (x : Gone r m half n (a ∷ []) f y t g) → p ≡ p'
      → Leaves r m half n ns g (with_all_links y x.links) (with_pairs t (unpair_all n (a ∷ []) t.pairs)) p' → Leaves r m half n (a ∷ ns) f y t p
  leaves_then x e l = record {
    after = l.after;
    ended = e ∙ l.ended;
    gone = record {
      links = l.gone.links;
      within = l.gone.within;
      kept = λ k b. l.gone.kept k b ∙ x.kept k b;
      numbers = λ q. l.gone.numbers q ∙ x.numbers q;
      short = l.gone.short;
    };
  }

-- ---- one group

shorter : (b : Bool) (xs ls : List ℕ) {k : ℕ} → length xs ≤ k → length ls ≤ k → length (cond b xs ls) ≤ k
shorter true xs ls a b = a
shorter false xs ls a b = b

-- the group at place q, of number a
module _ (fed : ℕ) {r half : ℕ} (many : group_register < r) (few : r ≤ register_count) (n : ℕ) {f : Free} {y : Layout} {t : Table} (within : Within r f y t)
    (short : Short half y) {q : ℕ} (mine : Memᴰ q y.groups) (a : ℕ) (is : number_at f q ≡ group_mark + a) where
  cut_leaves : {p : Performed Free Place} (s : Sought r y t f n q p)
      → Leaves r 2 half n (a ∷ []) f y t (free_perform fed s.after (cut_found s.position))
  cut_leaves s =
      let x = s.position in
      let number : number_at s.after q ≡ group_mark + a = only_number s.regs q ∙ is in
      let chosen : (b : Bool) → x.found ≡ b → free_perform fed s.after (cut_found x) ≡ free_perform fed s.after (cut_found (place b x.at x.via x.left)) =
      λ b e. ap (λ (z : Bool). free_perform fed s.after (cut_found (place z x.at x.via x.left))) e in
      bool_or x.found
      (λ e. let k = cut_ends s.within (omega arith) few n a q mine number x s.at (s.at.present e) fed in
      record {
        after = k.after;
        ended = chosen true e ∙ k.ended;
        gone = record {
          links = update_list y.links q k.links;
          within = k.within;
          kept = λ j l. k.kept j l ∙ s.regs.above j l;
          numbers = λ u. k.numbers u ∙ only_number s.regs u;
          short = record {
            entries = short.entries;
            links = λ u m. shorter (eqb u q) k.links (y.links u) (let i = k.shorter in let j = short.links q mine in omega arith) (short.links u m);
          };
        };
      })
      (λ e. record {
        after = s.after;
        ended = chosen false e;
        gone = gone_same (a ∷ []) (unpair_none n a t.pairs (sym (member_paired n a s.within mine number s.at) ∙ e)) s.within short s.regs;
      })

  -- and then the next entry comes into the register, whatever follows
  module _ (at_hand : reg f group_register ≡ q) where
    pub record NextGroup : Type 0 where
      pub after : Free
      pub steps : (b : Act (Unit {0}))
          → free_perform fed f (members half n >>= λ w. cut_found w >> must (load group_register group_register next_field) >> b) ≡ free_perform fed after b
      pub gone : Gone r 3 half n (a ∷ []) f y t after
      pub next : reg after group_register ≡ held after (field q next_field)

    pub leaves_one : NextGroup
    leaves_one =
        let s = members-sought within (omega arith) fed short n q mine at_hand in
        let x = cut_leaves s in
        let g = x.after in
        let v = held g (field q next_field) in
        let c = x.gone.within.core in
        let o : OnlyRegs 3 g (set_reg g group_register v) = set_only g group_register v c.store.shaped 3 (omega arith) in
        record {
          after = set_reg g group_register v;
          steps = λ b. then_passed fed f (members half n) (λ w. cut_found w >> must (load group_register group_register next_field) >> b) s.ended
              ∙ then_passed fed s.after (cut_found s.position >> must (load group_register group_register next_field)) (λ u. b)
              (then_passed fed s.after (cut_found s.position) (λ u. must (load group_register group_register next_field)) x.ended
              ∙ must_last fed g (load group_register group_register next_field)
              (load_step fed (within_ready x.gone.within) group_register group_register next_field (omega arith) (omega arith)
              (x.gone.kept group_register (omega arith) ∙ at_hand) (good_there (entry_good c (Memᴰ.append_left y.people mine)))));
          gone = gone_regs (omega arith) (omega arith) x.gone o;
          next = reg_held c.store.shaped group_register (field q next_field) (omega arith);
        }
