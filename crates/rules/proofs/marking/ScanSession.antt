-- HeapMark, the list done: the white records among the registers of an unscanned session are shaded, and the session is scanned.
use Prim.Native.Nat.{ℕ, ◌≤◌}
use mathlib.Core.Path.{◌≡◌, refl}
use mathlib.Core.Bool.{true, false}
use native.Mathlib.Omega.{arith}
use lib.ListN.{get_or}
use Rattle.rules.specs.Memory.{null}
use Rattle.rules.specs.Control.{Store, last_session}
use Rattle.rules.specs.Cycle.{stage}
use Rattle.rules.specs.Phases.{absent, session_at, with_mark, with_session}
use Rattle.rules.specs.Barriers.{shade_all}
use Rattle.rules.specs.Collector.{scan_session}
use Rattle.rules.specs.Free.{Free, free_session}
use Rattle.rules.proofs.Shaded.{shade_all-sessions}
use Rattle.rules.proofs.invariant.Stages.{st_heap_mark}
use Rattle.rules.proofs.invariant.Words.{Clean}
use Rattle.rules.proofs.invariant.Protected.{clean_covered}
use Rattle.rules.proofs.invariant.Sim.{Sim}
use Rattle.rules.proofs.invariant.Spending.{scan_spends}
use Rattle.rules.proofs.invariant.Laws.{cur_two}
use Rattle.rules.proofs.invariant.Alive.{register_alive}
use Rattle.rules.proofs.relation.Stepped.{Stepped, stepped}
use Rattle.rules.proofs.sessions.Session.{SessionFits, session_fits, session_sim_same}
use Rattle.rules.proofs.marking.Shading.{keeps_grows}
use Rattle.rules.proofs.marking.ShadeAll.{ShadedAll, shading_all_marks}

-- session n marked scanned
abbrev scanned : Store → ℕ → Store
scanned s n = with_session s n (with_mark (session_at s n) true)

-- ---- a session whose registers are clean may be marked
scanned_sim : {K : ℕ → Type 0} {m : ℕ → ℕ} {s : Store} {f : Free} → Sim K m s f → stage s.phase ≡ st_heap_mark → (n : ℕ) → n ≤ last_session
    → ((k : ℕ) → Clean s.memory s.current (get_or (session_at s n).registers k null)) → Sim K m (scanned s n) f
scanned_sim {K} {m} {s} {f} h is n l c = session_sim_same h n l fits
  where
    fits : SessionFits K m s (with_mark (session_at s n) true) (free_session f n)
    fits =
        let z = session_fits h n l in
        record {
          registers = z.registers;
          free-registers = z.free-registers;
          attached = z.attached;
          low = z.low;
          allowed = z.allowed;
          idle = z.idle;
          words = λ a k. let w = z.words a k in record {
            ok = w.ok;
            is = w.is;
            names = w.names;
            marked = λ e. absurd (omega arith);
            scanned = λ e y. clean_covered (c k);
            clean = w.clean;
            kept = w.kept;
          };
          free_idle = z.free_idle;
        }

module _ {K : ℕ → Type 0} {m : ℕ → ℕ} {s : Store} {f : Free} (h : Sim K m s f) (is : stage s.phase ≡ st_heap_mark) (n : ℕ) (l : n ≤ last_session)
    (yet : (get_or s.sessions n absent).scanned ≡ false) where
  registers-shaded : ShadedAll K m s f (session_at s n).registers
  unfolding session_at
  registers-shaded = shading_all_marks h (h.roots.reg_ok n) (h.root_halves.regs (omega arith) n) (omega arith) (omega arith) (register_alive h n)

  scan_with : (z : ShadedAll K m s f (session_at s n).registers) → Stepped K m s f (scan_session s n)
  unfolding scan_session with_session session_at
  scan_with z =
      let k = z.keeps in
      let t = shade_all s z.them in
      stepped {s' = scanned t n}
      (rw (z.passes, shade_all-sessions z.them s _, k.sessions))
      (scanned_sim z.sim (rw k.phase is) n l (rw (k.current, k.sessions) z.clean))
      (omega (arith, k.frame.front 0)) (omega (arith, k.frame.front 1))
      (scan_spends h.range is (keeps_grows (cur_two h) k) n (with_mark (session_at t n) true) (rw k.sessions (omega (arith, h.roots.sessions))) (rw k.sessions yet) refl)

  pub scan_session-stepped : Stepped K m s f (scan_session s n)
  scan_session-stepped = scan_with registers-shaded
