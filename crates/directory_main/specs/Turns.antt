-- One entry, and what is left after it.
use Rattle.std.specs.Prelude.{ℕ, ◌+◌, Bool, true, Option, None, Some, List, [], length, take, replicate}
use Rattle.std.proofs.lemmas.List.Edits.{sets}
use Rattle.rules.specs.Control.{Store}
use Rattle.store.specs.View.{view}
use Rattle.script.specs.Turns as script
use Rattle.directory_rules.specs.Table.{Given}
use Rattle.directory_rules.specs.Directory.{directory_call}
use Rattle.directory_main.specs.declared.entries.Request.{Request}
use Rattle.directory_main.specs.declared.entries.Request.TheVariants.{Open, Add, Remove, Make, Join, Leave, List as Members}
use Rattle.script.specs.declared.turns.Turn.{Turn}
use Rattle.directory_main.specs.Entries.{asked, lent_by, entry_of}
use Rattle.directory_main.specs.Lines.{line_text}

-- the words of what a request is given: those lent to a list
abbrev pub words_of : Request → List ℕ → List ℕ
words_of Open ws = []
words_of (Add n) ws = []
words_of (Remove n) ws = []
words_of (Make g) ws = []
words_of (Join n g) ws = []
words_of (Leave n g) ws = []
words_of (Members g k) ws = ws

-- the store, the output with the end of what was written, and whether there may be more to do
pub record Left : Type 0 where
  pub store : Store
  pub out : List ℕ
  pub end : ℕ
  pub more : Bool

-- what the code leaves, with the words and bytes that it leaves
abbrev pub turned : Turn → List ℕ → List ℕ → List ℕ → List ℕ → Left
turned t h0 h1 l out = record { store = view t.control h0 h1 l; out = out; end = t.end; more = t.more }

-- the line of what a request is given, with the members that were written
abbrev pub given_text : ℕ → Given → List ℕ
given_text n g = line_text n g.number g.count (take g.count g.words)

-- a request, lent some words, and its line at the end of the output
unfoldable pub own_turn : Store → Request → List ℕ → ℕ → List ℕ → ℕ → Left
own_turn s q ws n out end =
    let d = directory_call s (asked q ws) in
    record {
      store = d.store;
      out = sets out end (given_text n d.given);
      end = end + length (given_text n d.given);
      more = true;
    }

-- an entry of another kind, as the script does it
unfoldable pub other_turn : Store → List ℕ → ℕ → List ℕ → ℕ → Left
other_turn s b n out end =
    let x = script.turns 1 1 b (script.begun s 0 n out end) in
    record { store = x.store; out = x.out; end = x.end; more = x.more }

abbrev pub turn_by : Option Request → Store → List ℕ → ℕ → List ℕ → ℕ → Left
turn_by (Some q) s b n out end = own_turn s q (replicate (lent_by q) 0) n out end
turn_by None s b n out end = other_turn s b n out end

-- entry n, of which b is all the bytes: its call, and its line
unfoldable pub turn_of : Store → List ℕ → ℕ → List ℕ → ℕ → Left
turn_of s b n out end = turn_by (entry_of b) s b n out end
