-- The table carried along a run: every directory call answers as the table does, and leaves the session's registers null.
use Prim.Native.Nat.{ℕ, ◌≤◌}
use mathlib.Core.Path.{◌≡◌, refl, ap, subst, ◌∙◌}
use mathlib.Core.Bool.{true}
use mathlib.Core.List.{List, [], ◌∷◌, ◌++◌, append-nil, append_assoc}
use native.Mathlib.Omega.{arith}
use lib.ListN.{get_or}
use Rattle.rules.specs.Memory.{null}
use Rattle.rules.specs.Control.{Store}
use Rattle.rules.specs.Phases.{session_at}
use Rattle.rules.specs.Runs.{Call, apply, fed_by}
use Rattle.rules.specs.Free.{Free, new_free}
use Rattle.rules.specs.Claims.{Made, NullRegisters}
use Rattle.rules.proofs.Ranges.{both}
use Rattle.rules.proofs.runs.Claims.{null-registers}
use Rattle.directory_rules.specs.Table.{Request, Open, Add, Remove, Make, Join, Leave, Members, Table, new_table, table_next, table_given, table_after}
use Rattle.directory_rules.specs.Acts.{own_session, calls_made, allocation_number}
use Rattle.directory_rules.specs.Directory.{program_on, given_of, directory_call, fed_number}
use Rattle.directory_rules.specs.Runs.{Item, call, request, others, allowed, after_items, calls_of, directory_run, feeds_of, table_run, table_end}
use Rattle.directory_rules.specs.Claims.{allocating, TableAnswers, Cleared}
use Rattle.directory_rules.proofs.acts.Few.{few-program}
use Rattle.directory_rules.proofs.chains.Core.{Layout, Represents, Stays}
use Rattle.directory_rules.proofs.calls.Request.{request-kept}
use Rattle.directory_rules.proofs.runs.Beside.{Here, here_new, here-call}
use Rattle.directory_rules.proofs.runs.Performs.{performs, few_fed}
use Rattle.directory_rules.proofs.runs.Others.{others-kept}
use Rattle.directory_rules.proofs.runs.Length.{core_short}
use Rattle.directory_rules.proofs.runs.Start.{empty_layout, start_represents}

-- the store t that the calls cs leave of s, where the table is u
pub record State (s : Store) (cs : List Call) (t : Store) (u : Table) : Type 0 where
  pub free : Free
  pub here : Here s cs t free
  pub layout : Layout
  pub represents : Represents free layout u

state_new : (s : Store) → State s [] s new_table
state_new s = record { free = new_free; here = here_new s; layout = empty_layout; represents = start_represents }

-- ---- one item more

-- a call of another session, or a step
state_call : {s t : Store} {cs : List Call} {u : Table} → State s cs t u → (c : Call) → others c ≡ true → State s (cs ++ (c ∷ [])) (apply t c).store u
state_call {t = t} a c e = record {
  free = _;
  here = here-call a.here c;
  layout = a.layout;
  represents = others-kept c (fed_by (apply t c).reply) e a.represents;
}

one_at_most : (q : Request) → allocating q ≤ 1
one_at_most (Open share) = omega arith
one_at_most (Add n) = omega arith
one_at_most (Remove n) = omega arith
one_at_most (Make g) = omega arith
one_at_most (Join n g) = omega arith
one_at_most (Leave n g) = omega arith
one_at_most (Members g out) = omega arith

-- a directory call
pub record RequestAnswered (s : Store) (cs : List Call) (t : Store) (u : Table) (y : Layout) (q : Request) : Type 0 where
  pub given : (directory_call t q).given ≡ table_given q (table_next u q (fed_number t q))
  pub state : State s (cs ++ calls_made t (program_on t q)) (directory_call t q).store (table_after u (table_next u q (fed_number t q)))
  pub stays : Stays y state.layout

pub state_request : {s t : Store} {cs : List Call} {u : Table} → Made s → (a : State s cs t u) (q : Request) → RequestAnswered s cs t u a.layout q
unfolding directory_call fed_number
state_request {t = t} made a q =
    let n : ℕ = allocation_number t (program_on t q) in
    let p = performs a.here made n (program_on t q) (few_fed (few-program t t.lengths.half0 q) (one_at_most q)) in
    let k = request-kept n a.represents (core_short made a.here a.represents.core) q in
    record {
      given = ap (given_of q) p.result ∙ k.given;
      state = record { free = _; here = p.here; layout = k.layout; represents = k.represents };
      stays = k.stays;
    }

-- ---- all items

-- such a store, where every place of the directory in the layout y still is one
pub record Later (s : Store) (cs : List Call) (t : Store) (u : Table) (y : Layout) : Type 0 where
  pub state : State s cs t u
  pub stays : Stays y state.layout

later_call : {s t : Store} {cs : List Call} {u : Table} {y : Layout} → Later s cs t u y → (c : Call) → others c ≡ true → Later s (cs ++ (c ∷ [])) (apply t c).store u y
unfolding state_call
later_call a c e = record { state = state_call a.state c e; stays = a.stays }

later_request : {s t : Store} {cs : List Call} {u : Table} {y : Layout} → Made s → Later s cs t u y → (q : Request)
    → Later s (cs ++ calls_made t (program_on t q)) (directory_call t q).store (table_after u (table_next u q (fed_number t q))) y
later_request made a q = let k = state_request made a.state q in record { state = k.state; stays = λ p o. k.stays p (a.stays p o) }

longer : {s t : Store} {cs ds : List Call} {u : Table} {y : Layout} → cs ≡ ds → Later s cs t u y → Later s ds t u y
longer {s} {t} {u = u} {y = y} e a = subst (λ (cs : List Call). Later s cs t u y) e a

module _ {s : Store} (made : Made s) where
  run_answers : {cs : List Call} {t : Store} {u : Table} → State s cs t u → (xs : List Item) → allowed xs ≡ true → directory_run t xs ≡ table_run u (feeds_of t xs)
  run_answers a [] e = refl
  run_answers {cs = cs} a (call c ∷ xs) e = let z = both (others c) (allowed xs) e in run_answers {cs = cs ++ (c ∷ [])} (state_call a c z.0) xs z.1
  run_answers a (request q ∷ xs) e =
      let k = state_request made a q in
      rw (k.given, run_answers k.state xs e)

  run_later : {cs : List Call} {t : Store} {u : Table} {y : Layout} → Later s cs t u y → (xs : List Item) → allowed xs ≡ true
      → Later s (cs ++ calls_of t xs) (after_items t xs) (table_end u (feeds_of t xs)) y
  run_later a [] e = rw append-nil a
  run_later {cs = cs} {t = t} a (call c ∷ xs) e =
      let z = both (others c) (allowed xs) e in
      longer (append_assoc cs (c ∷ []) (calls_of (apply t c).store xs)) (run_later {cs = cs ++ (c ∷ [])} (later_call a c z.0) xs z.1)
  run_later {cs = cs} {t = t} a (request q ∷ xs) e =
      longer (append_assoc cs (calls_made t (program_on t q)) (calls_of (directory_call t q).store xs)) (run_later (later_request made a q) xs e)

  pub state_later : {cs : List Call} {t : Store} {u : Table} (a : State s cs t u) (xs : List Item) → allowed xs ≡ true
      → Later s (cs ++ calls_of t xs) (after_items t xs) (table_end u (feeds_of t xs)) a.layout
  state_later a xs e = run_later (record { state = a; stays = λ q o. o }) xs e

  pub items_state : (xs : List Item) → allowed xs ≡ true → State s (calls_of s xs) (after_items s xs) (table_end new_table (feeds_of s xs))
  items_state xs e = (state_later (state_new s) xs e).state

  -- the session's registers, as words
  pub state_cleared : {cs : List Call} {t : Store} {u : Table} → State s cs t u → (k : ℕ) → get_or (session_at t own_session).registers k null ≡ null
  unfolding NullRegisters
  state_cleared {cs = cs} a k = rw a.here.store at (null-registers s made cs own_session k (rw a.here.free (a.represents.cleared k)))

pub table_answers : TableAnswers
unfolding TableAnswers
table_answers s made xs e = run_answers made (state_new s) xs e

pub cleared : Cleared
unfolding Cleared
cleared s made xs e k = state_cleared made (items_state made xs e) k
