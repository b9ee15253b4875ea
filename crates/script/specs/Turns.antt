-- The entries of a script, one after another: what is left after them.
use Rattle.std.specs.Prelude.{◌≡◌, ℕ, zero, suc, ◌+◌, Bool, true, false, cond, ◌&&◌, List, length, leb, ltb}
use Rattle.std.proofs.lemmas.List.Edits.{sets}
use Rattle.rules.specs.Control.{Store}
use Rattle.rules.specs.Runs.{apply}
use Rattle.rules.specs.Script.{entry_at, by_entry, call, Line, bad_line, line_of, text_of}
use Rattle.store.specs.View.{view}
use Rattle.script.specs.Commands.{calling}
use Rattle.script.specs.Lines.{longest}
use Rattle.script.specs.declared.entries.Command.{Command}
use Rattle.script.specs.declared.turns.Turn.{Turn}

-- the store, the place and the number of the next entry, the output with the end of what was written, and whether there
-- may be more to do
pub record Left : Type 0 where
  pub store : Store
  pub at : ℕ
  pub number : ℕ
  pub out : List ℕ
  pub end : ℕ
  pub more : Bool

-- what the code leaves, with the words and bytes that it leaves
abbrev pub turned : Turn → List ℕ → List ℕ → List ℕ → List ℕ → Left
turned t h0 h1 l out =
    record {
      store = view t.control h0 h1 l;
      at = t.at;
      number = t.number;
      out = out;
      end = t.end;
      more = t.more;
    }

-- before the first of the entries: entry n, at place i of the input
abbrev pub begun : Store → ℕ → ℕ → List ℕ → ℕ → Left
begun s i n out end = record { store = s; at = i; number = n; out = out; end = end; more = true }

-- a line at the end of the output, and nothing else of the output changed
abbrev pub with_line : Line → Store → ℕ → ℕ → List ℕ → ℕ → Bool → Left
with_line l s i n out end more =
    record {
      store = s;
      at = i;
      number = n;
      out = sets out end (text_of l);
      end = end + length (text_of l);
      more = more;
    }

-- the entry at the place: its call, and its line; "15 writes its line and stops"
unfoldable pub turn : List ℕ → Left → Left
turn bs x =
    by_entry
    (entry_at bs x.at)
    (record { store = x.store; at = x.at; number = x.number; out = x.out; end = x.end; more = false })
    (with_line (bad_line x.number) x.store x.at x.number x.out x.end false)
    (λ c j. with_line (line_of x.number (apply x.store c).reply) (apply x.store c).store j (x.number + 1) x.out x.end true)

-- entries are counted in 64 bits: none gets this number, 2 to the 64th less 1
abbrev pub number_end : ℕ
number_end = 18446744073709551615

-- whether the next entry is done: it begins before the place stop, its line has room, and its number can be counted
unfoldable pub goes_on : ℕ → Left → Bool
goes_on stop x = x.more && ltb x.at stop && leb (x.end + longest) (length x.out) && ltb x.number number_end

-- the entries that begin before the place stop, as long as it goes on, k at most. A turn with a call takes a byte at
-- least, so stop of them are enough
abbrev pub turns : ℕ → ℕ → List ℕ → Left → Left
turns zero stop bs x = x
turns (suc k) stop bs x = cond (goes_on stop x) (turns k stop bs (turn bs x)) x

-- ---- the next call

-- no turn is left to take: from what was left before, the turns leave this
abbrev pub AllTaken : ℕ → List ℕ → Turn → List ℕ → Turn → List ℕ → Type 0
AllTaken stop bs t out t' out' = (h0 h1 l : List ℕ) → turned t' h0 h1 l out' ≡ turns stop stop bs (turned t h0 h1 l out)

-- the next turn is taken, and makes this call; the entry after it stands at place j
pub record IsCall (stop : ℕ) (bs : List ℕ) (t : Turn) (out : List ℕ) (c : Command) (j : ℕ) (t' : Turn) (out' : List ℕ) : Type 0 where
  pub on : (h0 h1 l : List ℕ) → goes_on stop (turned t h0 h1 l out) ≡ true
  pub here : entry_at bs t.at ≡ call (calling c) j
  pub same : t' ≡ t
  pub out_same : out' ≡ out
