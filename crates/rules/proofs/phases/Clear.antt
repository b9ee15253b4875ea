-- Reclaim below the frontier: the replica word of the record at the walk place becomes 0, and the walk goes on.
use Prim.Native.Nat.{ℕ, ◌+◌, ◌<◌, zero-le}
use mathlib.Core.Path.{◌≡◌, sym, ◌∙◌}
use mathlib.Core.Logic.{◌≢◌}
use native.Mathlib.Omega.{arith}
use Rattle.rules.specs.Memory.{Memory, null, word_of, replica_at, put, replica, size, frontier}
use Rattle.rules.specs.Control.{Store}
use Rattle.rules.specs.Cycle.{stage}
use Rattle.rules.specs.Collector.{walked, past_record}
use Rattle.rules.specs.Free.{Free}
use Rattle.rules.proofs.memory.Cases.{eq_or, either}
use Rattle.rules.proofs.memory.Records.{Start}
use Rattle.rules.proofs.memory.Walk.{walk_split}
use Rattle.rules.proofs.memory.Put.{PutKept, put-replica}
use Rattle.rules.proofs.invariant.Stages.{st_reclaim}
use Rattle.rules.proofs.invariant.Words.{In}
use Rattle.rules.proofs.invariant.Groups.{Pair, Pairs}
use Rattle.rules.proofs.invariant.Marking.{Walking}
use Rattle.rules.proofs.invariant.Sim.{Sim}
use Rattle.rules.proofs.invariant.Laws.{cur_two}
use Rattle.rules.proofs.invariant.Idle.{agreement_late, cleaned_idle, colours_reclaim, roots_home, walking-reclaim}
use Rattle.rules.proofs.invariant.Range.{range_walk}
use Rattle.rules.proofs.invariant.Walked.{walked_in, walked_next, walked_limit}
use Rattle.rules.proofs.frames.Frame.{Frame, One}
use Rattle.rules.proofs.frames.Change.{put_frame}
use Rattle.rules.proofs.frames.Kept.{in_back, replica-kept}
use Rattle.rules.proofs.frames.Whole.{ReplicaChanged, replica_changed}

module _ {K : ℕ → Type 0} {m : ℕ → ℕ} {s : Store} {f : Free} (h : Sim K m s f) (e : stage s.phase ≡ st_reclaim) (l : s.walk.place < frontier s.memory s.current) where
  abbrev M : Memory
  M = s.memory

  abbrev M' : Memory
  M' = put M (walked s) replica_at null

  abbrev place' : ℕ
  place' = s.walk.place + size M (walked s)

  pub cleared_in : In M s.current (walked s)
  cleared_in = walked_in h (h.walking.at_reclaim e) l

  written : PutKept M M' (walked s) replica_at null
  written = put-replica h.filled cleared_in.start null

  frame : Frame M M' (One (walked s) replica_at)
  frame = put_frame written (omega arith)

  rest-kept : ReplicaChanged K m s M' f
  rest-kept = replica_changed h frame (λ v j q. q.1)

  -- ---- replica words
  cleared-word : replica M' (walked s) ≡ null
  unfolding replica
  cleared-word = written.new

  other_word : {u : ℕ} → Start M u → u ≢ walked s → replica M' u ≡ replica M u
  other_word t d = replica-kept frame t (λ q. d q.0)

  still-null : (u : ℕ) → Start M u → replica M u ≡ null → replica M' u ≡ null
  still-null u t z = eq_or u (walked s) (λ q. rw q cleared-word) (λ d. other_word t d ∙ z)

  -- ---- the groups that read them, or the walk
  pair_clear : (u : ℕ) → In M s.current u → replica M u ≢ null → Pair M' m u (replica M u)
  pair_clear u t n =
      let p = h.pairs.pair u t n in
      let d : replica M u ≢ walked s = λ q. p.across (rw q (cleared_in.side ∙ sym t.side)) in
      record {
        start = frame.to p.start;
        across = p.across;
        back = other_word p.start d ∙ p.back;
        same = p.same;
      }

  pairs-clear : Pairs M' m s.current (stage s.phase)
  pairs-clear = record {
    pair = λ u t n. let a = in_back frame t in
        eq_or u (walked s) (λ q. absurd (n (rw q cleared-word)))
        (λ d. let w = other_word a.start d in rw w (pair_clear u a (λ z. n (w ∙ z))));
    home = λ a. absurd (omega arith);
    empty = λ a. absurd (omega arith);
    spent = λ a. absurd (omega arith);
  }

  -- what was below the walk place is cleared, and now the record there
  cleared-next : (u : ℕ) → In M s.current u → word_of u < place' → replica M' u ≡ null
  unfolding walked
  cleared-next u t b = either (walk_split (cur_two h) (h.walking.at_reclaim e) t.start t.side b)
      (λ c. still-null u t.start (h.walking.cleared e u t c))
      (λ q. rw q cleared-word)

  walking-clear : Walking M' s.current (stage s.phase) place' 0 s.list.head s.list.tail
  walking-clear = walking-reclaim e (frame.walks (cur_two h) (walked_next h (h.walking.at_reclaim e) l)) (λ u t b. cleared-next u (in_back frame t) b)

  pub clear_sim : Sim K m (past_record s (put s.memory (walked s) replica_at null)) f
  unfolding past_record
  clear_sim = record {
    range = range_walk rest-kept.range place' 0 (walked_limit h (h.walking.at_reclaim e) l (omega arith) (omega arith)) zero-le;
    filled = rest-kept.filled;
    births = h.births;
    identity = rest-kept.identity;
    values = rest-kept.values;
    roots = rest-kept.roots;
    levels = h.levels;
    root_halves = roots_home (omega arith)
        (h.root_halves.regs (omega arith)) (h.root_halves.globals (omega arith));
    field_halves = rest-kept.field_halves;
    pairs = pairs-clear;
    agreement = agreement_late (omega arith);
    colours = colours_reclaim e
        (λ u t. rest-kept.colours_same u (frame.back t.start) ∙ h.colours.at_reclaim e u (in_back frame t));
    grey-list = rest-kept.grey-list;
    cleaned = cleaned_idle (λ a. omega (arith, a.1));
    walking = walking-clear;
    kept = rest-kept.kept;
  }
