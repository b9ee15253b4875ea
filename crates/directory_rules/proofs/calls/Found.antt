-- Where the walks of a call end: whether the record looked for was found is whether the table has it.
use Prim.Native.Nat.{ℕ, ◌+◌, ◌≤◌, ◌<◌}
use mathlib.Core.Path.{◌≡◌, refl, sym, ap, ◌∙◌}
use mathlib.Core.Logic.{◌⊎◌, inl, inr}
use mathlib.Core.Bool.{Bool, true, false, false≢true, true≢false}
use mathlib.Core.List.Memᴰ
use mathlib.Core.List.{List, [], ◌∷◌, ◌++◌, map, append-nil, Memᴰ}
use native.Mathlib.Omega.{arith}
use Rattle.rules.specs.Free.{Free}
use Rattle.rules.proofs.memory.Cases.{bool_or, either}
use Rattle.directory_rules.specs.Table.{Table, among, last_number}
use Rattle.directory_rules.specs.Acts.{Performed}
use Rattle.directory_rules.specs.Directory.{entries, group_mark}
use Rattle.directory_rules.specs.declared.Place.{Place}
use Rattle.directory_rules.proofs.Lists.{mem_cut, in_first, InSecond, in_second}
use Rattle.directory_rules.proofs.tables.Numbers.{among-map, among_none, among_behind}
use Rattle.directory_rules.proofs.free.Slots.{Slot, top, number_at}
use Rattle.directory_rules.proofs.free.Perform.{free_perform}
use Rattle.directory_rules.proofs.chains.Core.{Layout, Core, Short}
use Rattle.directory_rules.proofs.chains.Entries.{group-high, person-low, groups-among}
use Rattle.directory_rules.proofs.walks.Walked.{Stopped, at_key, at_low, at-end, Walked}
use Rattle.directory_rules.proofs.walks.Seek.{entries_walks}
use Rattle.directory_rules.proofs.calls.Kept.{Within, within_ready}

-- a record of a chain with the number looked for, and those before and after it
pub record FoundAt (f : Free) (key : ℕ) (qs before : List ℕ) : Type 0 where
  pub record_at : ℕ
  pub rest : List ℕ
  pub split : qs ≡ before ++ (record_at ∷ rest)
  pub number : number_at f record_at ≡ key

pub found_in : {f : Free} {key : ℕ} {qs before : List ℕ} (x : FoundAt f key qs before) → Memᴰ x.record_at qs
found_in {before = before} x = mem_cut before x.record_at x.rest x.split

-- a record below the bound of the walk
record Below (f : Free) (least : ℕ) (qs before : List ℕ) : Type 0 where
  record_at : ℕ
  rest : List ℕ
  split : qs ≡ before ++ (record_at ∷ rest)
  number : number_at f record_at < least

-- ---- why a walk stopped

module _ {f : Free} {key least : ℕ} where
  stopped_found : {ys : List ℕ} {b : Bool} → Stopped f key least ys b → b ≡ true → FoundAt f key ys []
  stopped_found (at_key e) t = record { record_at = _; rest = _; split = refl; number = e }
  stopped_found (at_low d l) t = absurd (false≢true t)
  stopped_found at-end t = absurd (false≢true t)

  stopped_else : {ys : List ℕ} {b : Bool} → Stopped f key least ys b → b ≡ false → Below f least ys [] ⊎ (ys ≡ [])
  stopped_else (at_key e) t = absurd (true≢false t)
  stopped_else (at_low d l) t = inl (record { record_at = _; rest = _; split = refl; number = l })
  stopped_else at-end t = inr refl

module _ {f : Free} {sl : Slot} {qs : List ℕ} {key least left : ℕ} {p : Performed Free Place} (w : Walked f sl qs key least left p) where
  -- what the walk has ahead, by another name
  ahead : {l : List ℕ} → w.ys ≡ l → qs ≡ w.xs ++ l
  ahead e = w.split ∙ ap (λ (l : List ℕ). w.xs ++ l) e

  pub there : w.found ≡ true → FoundAt f key qs w.xs
  there e =
      let h = stopped_found w.stopped e in
      record { record_at = h.record_at; rest = h.rest; split = ahead h.split; number = h.number }

  not_there : w.found ≡ false → Below f least qs w.xs ⊎ (w.xs ≡ qs)
  not_there e = either (stopped_else w.stopped e)
      (λ h. inl (record { record_at = h.record_at; rest = h.rest; split = ahead h.split; number = h.number }))
      (λ z. inr (sym (ahead z ∙ append-nil w.xs)))

-- ---- a walk with no bound

module _ {f : Free} {sl : Slot} {qs : List ℕ} {key left : ℕ} {p : Performed Free Place} (w : Walked f sl qs key 0 left p) where
  pub passed-all : w.found ≡ false → w.xs ≡ qs
  passed-all e = either (not_there w e) (λ l. let b = l.number in absurd (omega arith)) (λ z. z)

  pub found_among : w.found ≡ among key (map (number_at f) qs)
  found_among = bool_or w.found
      (λ e. e ∙ sym (among-map (number_at f) (found_in (there w e)) (there w e).number))
      (λ e. e ∙ sym (among_none (number_at f) qs key (λ q m. (w.passed_by q (rw (passed-all e) m)).0)))

-- ---- the walks over the entries

pub entries-walked : {m half : ℕ} (fed : ℕ) {f : Free} {y : Layout} {t : Table} → Within m f y t → Short half y → (key least : ℕ)
    → Walked f top (y.groups ++ y.people) key least half (free_perform fed f (entries half key least))
entries-walked {half = half} fed within short key least =
    entries_walks fed (within_ready within) within.core.store.own (λ z. omega arith) half key least within.core.entries short.entries

module _ {f : Free} {y : Layout} {t : Table} (c : Core f y t) where
  -- for a person, from some groups on
  module _ (gs : List ℕ) (high : (q : ℕ) → Memᴰ q gs → group_mark ≤ number_at f q) {n : ℕ} (small : n ≤ last_number)
      {sl : Slot} {left : ℕ} {p : Performed Free Place} (w : Walked f sl (gs ++ y.people) n 0 left p) where
    pub person-found : w.found ≡ among n t.people
    person-found =
        found_among w ∙ among_behind (number_at f) gs y.people n (λ q m e. let h = high q m in omega arith) ∙ ap (among n) c.people

    pub person_there : (e : w.found ≡ true) → InSecond gs y.people w.xs (there w e).record_at (there w e).rest
    person_there e = in_second _ _ _ _ _ (there w e).split
        (λ m. let h = high (there w e).record_at m in let i = (there w e).number in omega arith)

  -- for a group
  module _ (g : ℕ) {sl : Slot} {left : ℕ} {p : Performed Free Place}
      (w : Walked f sl (y.groups ++ y.people) (group_mark + g) group_mark left p) where
    pub group_there : w.found ≡ true → FoundAt f (group_mark + g) y.groups w.xs
    group_there e =
        let h : FoundAt f (group_mark + g) (y.groups ++ y.people) w.xs = there w e in
        let i : number_at f h.record_at ≡ group_mark + g = h.number in
        let r = in_first y.groups y.people w.xs h.record_at h.rest h.split (λ m. let l = person-low c m in omega arith) in
        record { record_at = h.record_at; rest = r.rest; split = r.front; number = i }

    no_person : (ps : List ℕ) → ((q : ℕ) → Memᴰ q ps → Memᴰ q y.people) → ((q : ℕ) → Memᴰ q ps → Memᴰ q w.xs) → ps ≡ []
    no_person [] i h = refl
    no_person (q ∷ ps) i h =
        let a = person-low c (i q (Memᴰ.head refl)) in let b = (w.passed_by q (h q (Memᴰ.head refl))).1 in absurd (omega arith)

    groups-before : (ps : List ℕ) → w.xs ≡ y.groups ++ ps → ((q : ℕ) → Memᴰ q ps → Memᴰ q y.people) → w.xs ≡ y.groups
    groups-before ps e i =
        e ∙ ap (λ (l : List ℕ). y.groups ++ l) (no_person ps i (λ q m. rw e (Memᴰ.append_right y.groups m))) ∙ append-nil y.groups

    pub groups-passed : w.found ≡ false → w.xs ≡ y.groups
    groups-passed e = either (not_there w e)
        (λ l. let r = in_second y.groups y.people w.xs l.record_at l.rest l.split
        (λ m. let h = group-high c m in let i = l.number in omega arith) in
        groups-before r.before r.front (λ q m. rw r.back (Memᴰ.append_left _ m)))
        (λ z. groups-before y.people z (λ q m. m))

    pub group-found : w.found ≡ among g t.groups
    group-found = bool_or w.found
        (λ e. let h = group_there e in e ∙ sym (among-map (number_at f) (found_in h) h.number))
        (λ e. e ∙ sym (among_none (number_at f) y.groups (group_mark + g) (λ q m. (w.passed_by q (rw (groups-passed e) m)).0)))
        ∙ groups-among c g
