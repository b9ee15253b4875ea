-- The entries one after another: whether the next one is done, what its turn leaves, and what all turns leave.
use Prim.Native.Nat.{ℕ, suc, ◌+◌, ◌≤◌, ◌<◌}
use mathlib.Core.Path.{◌≡◌, refl, ap, sym, ◌∙◌}
use mathlib.Core.Bool.{true, false, ◌&&◌}
use mathlib.Core.List.{List, []}
use native.Mathlib.Omega.{arith}
use native.Mathlib.Nat.{zero-add}
use lib.Dec.{leb, ltb}
use lib.ListN.{length}
use lib.Seq.{sets}
use borrow.Author.Tests.{le-leb, ltb-true, leb-true}
use Rattle.std.specs.Prelude.{Option, None, Some, Result, Ok, Err, is_some, MatchOption}
use Rattle.rules.specs.declared.Value.{Value}
use Rattle.rules.specs.declared.Refusal.{Refusal}
use Rattle.rules.specs.declared.Refusal.TheVariants.{BadScript}
use Rattle.rules.specs.Runs.{apply}
use Rattle.rules.specs.Script.{bad, call, entry_at, bad_line, text_of}
use Rattle.rules.proofs.Ranges.{both}
use Rattle.store.specs.declared.Control.{Control}
use Rattle.store.specs.View.{view}
use Rattle.script.specs.Commands.{calling, found, answered}
use Rattle.script.specs.declared.entries.Command.{Command}
use Rattle.script.specs.declared.turns.Turn.{Turn}
use Rattle.script.specs.Lines.{line, longest, version_refused, bad_version}
use Rattle.script.specs.Turns.{Left, turned, turn, number_end, goes_on, turns, AllTaken, IsCall}
use Rattle.script.proofs.Stopping.{no_more, turns_stay, turns_same}

-- ---- whether the next entry is done

pub record IsOn (stop : ℕ) (x : Left) : Type 0 where
  pub more : x.more ≡ true
  pub before : x.at < stop
  pub room : x.end + longest ≤ length x.out
  pub countable : x.number < number_end

pub is_on : (stop : ℕ) (x : Left) → goes_on stop x ≡ true → IsOn stop x
unfolding goes_on
is_on stop x on =
    let room = leb (x.end + longest) (length x.out) in
    let outer = both (x.more && ltb x.at stop && room) (ltb x.number number_end) on in
    let inner = both (x.more && ltb x.at stop) room outer.0 in
    let first = both x.more (ltb x.at stop) inner.0 in
    record {
      more = first.0;
      before = ltb-true x.at stop first.1;
      room = leb-true (x.end + longest) (length x.out) inner.1;
      countable = ltb-true x.number number_end outer.1;
    }

-- ---- turns

goes : (k stop : ℕ) (bs : List ℕ) (x : Left) → goes_on stop x ≡ true → turns (suc k) stop bs x ≡ turns k stop bs (turn bs x)
goes k stop bs x e = rw e

module _ (stop : ℕ) (bs : List ℕ) where
  -- one that is taken leaves those after it what all of them leave
  taken : (x : Left) {y : Left} → goes_on stop x ≡ true → turn bs x ≡ y → turns stop stop bs y ≡ turns stop stop bs x
  taken x on e =
      sym (ap (turns stop stop bs) e)
      ∙ sym (goes stop stop bs x on)
      ∙ turns_same (suc stop) stop stop bs x (omega arith) (omega arith)

  -- none is left to take
  pub all_taken : (t : Turn) (out : List ℕ) → ((h0 h1 l : List ℕ) → goes_on stop (turned t h0 h1 l out) ≡ false) → AllTaken stop bs t out t out
  all_taken t out off h0 h1 l = sym (turns_stay stop stop bs (turned t h0 h1 l out) (off h0 h1 l))

  -- after the last one
  last_taken : (x : Left) {y : Left} → goes_on stop x ≡ true → turn bs x ≡ y → y.more ≡ false → y ≡ turns stop stop bs x
  last_taken x {y} on e over = sym (turns_stay stop stop bs y (no_more stop y over)) ∙ taken x on e

  module _ (t : Turn) (out : List ℕ) (on : (h0 h1 l : List ℕ) → goes_on stop (turned t h0 h1 l out) ≡ true) where
    -- an entry that is 15
    pub bad_taken : {end : ℕ} {out' : List ℕ} → entry_at bs t.at ≡ bad → end ≡ t.end + length (text_of (line t.number (Err BadScript))) →
        out' ≡ sets out t.end (text_of (line t.number (Err BadScript))) → AllTaken stop bs t out (record t { end = end; more = false }) out'
    unfolding turn
    bad_taken {end} {out'} here e f h0 h1 l = last_taken (turned t h0 h1 l out) (on h0 h1 l) (rw (here, e, f)) refl

    -- the end of the input, or a call
    pub call_found : (next : Option (Command × ℕ)) → found (Ok next) ≡ entry_at bs t.at →
        MatchOption next (AllTaken stop bs t out (record t { more = is_some next }) out) (λ c. IsCall stop bs t out c.0 c.1 (record t { more = is_some next }) out)
    unfolding turn
    call_found None here = λ h0 h1 l. last_taken (turned t h0 h1 l out) (on h0 h1 l) (rw (← here)) refl
    call_found (Some c) here =
        record {
          on = on;
          here = sym here;
          same = rw (is_on stop (turned t [] [] [] out) (on [] [] [])).more;
          out_same = refl;
        }

  -- a call that was made
  pub call_taken : (t : Turn) (h0 h1 l out : List ℕ) (c : Command) {j : ℕ} {k : Control} (a : Result Value Refusal) {h0' h1' l' out' : List ℕ} {end : ℕ} →
      goes_on stop (turned t h0 h1 l out) ≡ true → entry_at bs t.at ≡ call (calling c) j → answered k a h0' h1' l' ≡ apply (view t.control h0 h1 l) (calling c) →
      end ≡ t.end + length (text_of (line t.number a)) → out' ≡ sets out t.end (text_of (line t.number a)) →
      turns stop stop bs (turned (record { control = k; at = j; number = t.number + 1; end = end; more = t.more }) h0' h1' l' out')
      ≡ turns stop stop bs (turned t h0 h1 l out)
  unfolding turn
  call_taken t h0 h1 l out c a on here made e f =
      taken (turned t h0 h1 l out) on (rw (here, ← made, e, f, (is_on stop (turned t h0 h1 l out) on).more))

-- ---- a bad version

pub version_room : (out : List ℕ) {r : ℕ} {o : List ℕ} → longest ≤ length out → r ≡ 0 + length (text_of (bad_line 0)) → o ≡ sets out 0 (text_of (bad_line 0))
    → version_refused r o ≡ bad_version out
unfolding bad_version
version_room out l e f = rw (le-leb longest (length out) l, e, f, zero-add)
