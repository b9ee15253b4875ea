-- The contract of each method of `Control`, as the checker has it, is the method's case of a run: a changed contract is refused
-- here. `Reads` of a method is what the checker makes of its clauses for its callers: `Asked` is what they must show, `Learnt`
-- what they learn of the arguments, the result and the arguments at exit.
use Prim.Native.Nat.{ℕ}
use mathlib.Core.Path.{◌≡◌}
use mathlib.Core.List.{List}
use contract.Lifetimes.{Lfts}
use Rattle.std.specs.Prelude.{Result}
use denote.MutBor.{MutBor}
use denote.Ref.{Bor}
use denote.Triple.Entry.{Args, Res}
use denote.Triple.Clauses.{Ended, Lasts, AtExit, at_exit}
use Rattle.rules.specs.Refusals.{answer, words}
use Rattle.rules.specs.Runs.{Attach, Detach, SafePoint, Allocate, Load, StoreRef, StoreLinks, Read, Write, Move, Clear, SameAs, Get, Put, Stretch, Companion, Birth, Step}
use Rattle.rules.specs.declared.Link.{Link}
use Rattle.rules.specs.Answers.{Done, answer_of}
use Rattle.rules.specs.declared.Refusal.{Refusal}
use Rattle.rules.specs.declared.Value.{Value}
use Rattle.store.specs.CodeRuns.{lent, CodeMade, by_make, Called, by_attach, by_detach, by_safe_point, by_allocate, by_load, by_store, by_store_links, by_read, by_write, by_move_register, by_clear, by_same, by_get, by_put, by_stretch, by_companion, by_birth, by_step}
use Rattle.store.specs.declared.Control.{Control}
use Rattle.store.specs.declared.Reply.{Reply}
use Rattle.store.specs.contracts.Control.make as make
use Rattle.store.proofs.Control.make.Reads as make_reads
use Rattle.store.specs.contracts.Control.attach as attach
use Rattle.store.proofs.Control.attach.Reads as attach_reads
use Rattle.store.specs.contracts.Control.detach as detach
use Rattle.store.proofs.Control.detach.Reads as detach_reads
use Rattle.store.specs.contracts.Control.safe_point as safe_point
use Rattle.store.proofs.Control.safe_point.Reads as safe_point_reads
use Rattle.store.specs.contracts.Control.allocate as allocate
use Rattle.store.proofs.Control.allocate.Reads as allocate_reads
use Rattle.store.specs.contracts.Control.load as load
use Rattle.store.proofs.Control.load.Reads as load_reads
use Rattle.store.specs.contracts.Control.store as store
use Rattle.store.proofs.Control.store.Reads as store_reads
use Rattle.store.specs.contracts.Control.store_links as store_links
use Rattle.store.proofs.Control.store_links.Reads as store_links_reads
use Rattle.store.specs.contracts.Control.read as read
use Rattle.store.proofs.Control.read.Reads as read_reads
use Rattle.store.specs.contracts.Control.birth as birth
use Rattle.store.proofs.Control.birth.Reads as birth_reads
use Rattle.store.specs.contracts.Control.write as write
use Rattle.store.proofs.Control.write.Reads as write_reads
use Rattle.store.specs.contracts.Control.move_register as move_register
use Rattle.store.proofs.Control.move_register.Reads as move_register_reads
use Rattle.store.specs.contracts.Control.clear as clear
use Rattle.store.proofs.Control.clear.Reads as clear_reads
use Rattle.store.specs.contracts.Control.same as same
use Rattle.store.proofs.Control.same.Reads as same_reads
use Rattle.store.specs.contracts.Control.get as get
use Rattle.store.proofs.Control.get.Reads as get_reads
use Rattle.store.specs.contracts.Control.put as put
use Rattle.store.proofs.Control.put.Reads as put_reads
use Rattle.store.specs.contracts.Control.stretch as stretch
use Rattle.store.proofs.Control.stretch.Reads as stretch_reads
use Rattle.store.specs.contracts.Control.companion as companion
use Rattle.store.proofs.Control.companion.Reads as companion_reads
use Rattle.store.specs.contracts.Control.step as step
use Rattle.store.proofs.Control.step.Reads as step_reads

-- lent words, and words lent by `&mut`
abbrev pub Slice : Type 0
Slice = Bor (List ℕ)

abbrev pub MutSlice : Type 0
MutSlice = MutBor (List ℕ)

-- At these arguments, result and last values of what is lent by `&mut`, a method asks nothing, and what its caller learns gives P.
-- A last value is tt where the method can change nothing.
abbrev pub Gives : (T : Ended) → ((κs : Lfts T.signature.lifetimes) → Args T.signature κs → Type 0)
    → ((κs : Lfts T.signature.lifetimes) → Args T.signature κs → Res T.signature κs → AtExit T κs → Type 0)
    → (κs : Lfts T.signature.lifetimes) (a : Args T.signature κs) → Res T.signature κs → Lasts T κs a → Type 0 → Type 0
Gives T Asked Learnt κs a r ws P = Asked κs a × (Learnt κs a r (at_exit T κs a ws) → P)

pub make_made : (κs : Lfts 3) (h0 h1 list : Slice) (r : Reply) → answer_of r.answer ≡ Done
    → Gives make.ended make_reads.Asked make_reads.Learnt κs
    (h0, (h1, (list, tt))) r (tt, (tt, (tt, tt)))
    (CodeMade (lent r.control h0.now h1.now list.now))
make_made κs h0 h1 list r done = (tt, λ e. by_make h0.now h1.now list.now r e done)

pub attach_called : (κs : Lfts 3) (self : Control) (h0 h1 list : Slice) (s share : ℕ) (r : Reply)
    → Gives attach.ended attach_reads.Asked attach_reads.Learnt κs
    (self, (h0, (h1, (list, (s, (share, tt)))))) r (tt, (tt, (tt, (tt, (tt, (tt, tt))))))
    (Called self h0.now h1.now list.now (Attach s share) (answer (answer_of r.answer)) (lent r.control h0.now h1.now list.now))
attach_called κs self h0 h1 list s share r = (tt, by_attach s share r)

pub detach_called : (κs : Lfts 3) (self : Control) (h0 h1 list : Slice) (s : ℕ) (r : Reply)
    → Gives detach.ended detach_reads.Asked detach_reads.Learnt κs
    (self, (h0, (h1, (list, (s, tt))))) r (tt, (tt, (tt, (tt, (tt, tt)))))
    (Called self h0.now h1.now list.now (Detach s) (answer (answer_of r.answer)) (lent r.control h0.now h1.now list.now))
detach_called κs self h0 h1 list s r = (tt, by_detach s r)

pub safe_point_called : (κs : Lfts 3) (self : Control) (h0 h1 list : Slice) (s : ℕ) (r : Reply)
    → Gives safe_point.ended safe_point_reads.Asked safe_point_reads.Learnt κs
    (self, (h0, (h1, (list, (s, tt))))) r (tt, (tt, (tt, (tt, (tt, tt)))))
    (Called self h0.now h1.now list.now (SafePoint s) (answer (answer_of r.answer)) (lent r.control h0.now h1.now list.now))
safe_point_called κs self h0 h1 list s r = (tt, by_safe_point s r)

pub allocate_called : (κs : Lfts 3) (self : Control) (h0 h1 : MutSlice) (list : Slice) (s register r p : ℕ) (a : Reply) (h0' h1' : List ℕ)
    → Gives allocate.ended allocate_reads.Asked allocate_reads.Learnt κs
    (self, (h0, (h1, (list, (s, (register, (r, (p, tt)))))))) a (tt, (h0', (h1', (tt, (tt, (tt, (tt, (tt, tt))))))))
    (Called self h0.now h1.now list.now (Allocate s register r p) (answer (answer_of a.answer)) (lent a.control h0' h1' list.now))
allocate_called κs self h0 h1 list s register r p a h0' h1' = (tt, by_allocate s register r p a h0' h1')

pub load_called : (κs : Lfts 3) (self : Control) (h0 h1 list : Slice) (s to register field : ℕ) (r : Reply)
    → Gives load.ended load_reads.Asked load_reads.Learnt κs
    (self, (h0, (h1, (list, (s, (to, (register, (field, tt)))))))) r (tt, (tt, (tt, (tt, (tt, (tt, (tt, (tt, tt))))))))
    (Called self h0.now h1.now list.now (Load s to register field) (answer (answer_of r.answer)) (lent r.control h0.now h1.now list.now))
load_called κs self h0 h1 list s to register field r = (tt, by_load s to register field r)

pub store_called : (κs : Lfts 3) (self : Control) (h0 h1 list : MutSlice) (s register field from : ℕ) (r : Reply) (h0' h1' list' : List ℕ)
    → Gives store.ended store_reads.Asked store_reads.Learnt κs
    (self, (h0, (h1, (list, (s, (register, (field, (from, tt)))))))) r (tt, (h0', (h1', (list', (tt, (tt, (tt, (tt, tt))))))))
    (Called self h0.now h1.now list.now (StoreRef s register field from) (answer (answer_of r.answer)) (lent r.control h0' h1' list'))
store_called κs self h0 h1 list s register field from r h0' h1' list' = (tt, by_store s register field from r h0' h1' list')

pub store_links_called : (κs : Lfts 3) (self : Control) (h0 h1 list : MutSlice) (s register count : ℕ) (links : List Link) (r : Reply) (h0' h1' list' : List ℕ)
    → Gives store_links.ended store_links_reads.Asked store_links_reads.Learnt κs
    (self, (h0, (h1, (list, (s, (register, (count, (links, tt)))))))) r (tt, (h0', (h1', (list', (tt, (tt, (tt, (tt, tt))))))))
    (Called self h0.now h1.now list.now (StoreLinks s register count links) (answer (answer_of r.answer)) (lent r.control h0' h1' list'))
store_links_called κs self h0 h1 list s register count links r h0' h1' list' = (tt, by_store_links s register count links r h0' h1' list')

pub read_called : (κs : Lfts 3) (self : Control) (h0 h1 list : Slice) (s register field : ℕ) (r : Reply)
    → Gives read.ended read_reads.Asked read_reads.Learnt κs
    (self, (h0, (h1, (list, (s, (register, (field, tt))))))) r (tt, (tt, (tt, (tt, (tt, (tt, (tt, tt)))))))
    (Called self h0.now h1.now list.now (Read s register field) (answer (answer_of r.answer)) (lent r.control h0.now h1.now list.now))
read_called κs self h0 h1 list s register field r = (tt, by_read s register field r)

pub write_called : (κs : Lfts 3) (self : Control) (h0 h1 : MutSlice) (list : Slice) (s register field value : ℕ) (r : Reply) (h0' h1' : List ℕ)
    → Gives write.ended write_reads.Asked write_reads.Learnt κs
    (self, (h0, (h1, (list, (s, (register, (field, (value, tt)))))))) r (tt, (h0', (h1', (tt, (tt, (tt, (tt, (tt, tt))))))))
    (Called self h0.now h1.now list.now (Write s register field value) (answer (answer_of r.answer)) (lent r.control h0' h1' list.now))
write_called κs self h0 h1 list s register field value r h0' h1' = (tt, by_write s register field value r h0' h1')

pub move_register_called : (κs : Lfts 3) (self : Control) (h0 h1 list : Slice) (s to from : ℕ) (r : Reply)
    → Gives move_register.ended move_register_reads.Asked move_register_reads.Learnt κs
    (self, (h0, (h1, (list, (s, (to, (from, tt))))))) r (tt, (tt, (tt, (tt, (tt, (tt, (tt, tt)))))))
    (Called self h0.now h1.now list.now (Move s to from) (answer (answer_of r.answer)) (lent r.control h0.now h1.now list.now))
move_register_called κs self h0 h1 list s to from r = (tt, by_move_register s to from r)

pub clear_called : (κs : Lfts 3) (self : Control) (h0 h1 list : Slice) (s register : ℕ) (r : Reply)
    → Gives clear.ended clear_reads.Asked clear_reads.Learnt κs
    (self, (h0, (h1, (list, (s, (register, tt)))))) r (tt, (tt, (tt, (tt, (tt, (tt, tt))))))
    (Called self h0.now h1.now list.now (Clear s register) (answer (answer_of r.answer)) (lent r.control h0.now h1.now list.now))
clear_called κs self h0 h1 list s register r = (tt, by_clear s register r)

pub same_called : (κs : Lfts 3) (self : Control) (h0 h1 list : Slice) (s a b : ℕ) (r : Reply)
    → Gives same.ended same_reads.Asked same_reads.Learnt κs
    (self, (h0, (h1, (list, (s, (a, (b, tt))))))) r (tt, (tt, (tt, (tt, (tt, (tt, (tt, tt)))))))
    (Called self h0.now h1.now list.now (SameAs s a b) (answer (answer_of r.answer)) (lent r.control h0.now h1.now list.now))
same_called κs self h0 h1 list s a b r = (tt, by_same s a b r)

pub get_called : (κs : Lfts 3) (self : Control) (h0 h1 list : Slice) (s to global : ℕ) (r : Reply)
    → Gives get.ended get_reads.Asked get_reads.Learnt κs
    (self, (h0, (h1, (list, (s, (to, (global, tt))))))) r (tt, (tt, (tt, (tt, (tt, (tt, (tt, tt)))))))
    (Called self h0.now h1.now list.now (Get s to global) (answer (answer_of r.answer)) (lent r.control h0.now h1.now list.now))
get_called κs self h0 h1 list s to global r = (tt, by_get s to global r)

pub put_called : (κs : Lfts 3) (self : Control) (h0 h1 list : MutSlice) (s global from : ℕ) (r : Reply) (h0' h1' list' : List ℕ)
    → Gives put.ended put_reads.Asked put_reads.Learnt κs
    (self, (h0, (h1, (list, (s, (global, (from, tt))))))) r (tt, (h0', (h1', (list', (tt, (tt, (tt, tt)))))))
    (Called self h0.now h1.now list.now (Put s global from) (answer (answer_of r.answer)) (lent r.control h0' h1' list'))
put_called κs self h0 h1 list s global from r h0' h1' list' = (tt, by_put s global from r h0' h1' list')

pub stretch_called : (κs : Lfts 2) (self : Control) (h0 h1 list : Slice) (s register : ℕ) (r : Slice)
    → Gives stretch.ended stretch_reads.Asked stretch_reads.Learnt κs
    (self, (h0, (h1, (list, (s, (register, tt)))))) r (tt, (tt, (tt, (tt, (tt, (tt, tt))))))
    (Called self h0.now h1.now list.now (Stretch s register) (words r.now) (lent self h0.now h1.now list.now))
stretch_called κs self h0 h1 list s register r = (tt, by_stretch s register r.now)

pub companion_called : (κs : Lfts 3) (self : Control) (h0 h1 list : Slice) (s register : ℕ) (r : Result Value Refusal)
    → Gives companion.ended companion_reads.Asked companion_reads.Learnt κs
    (self, (h0, (h1, (list, (s, (register, tt)))))) r (tt, (tt, (tt, (tt, (tt, (tt, tt))))))
    (Called self h0.now h1.now list.now (Companion s register) (answer (answer_of r)) (lent self h0.now h1.now list.now))
companion_called κs self h0 h1 list s register r = (tt, by_companion s register (answer_of r))

pub birth_called : (κs : Lfts 3) (self : Control) (h0 h1 list : Slice) (s register : ℕ) (r : Reply)
    → Gives birth.ended birth_reads.Asked birth_reads.Learnt κs
    (self, (h0, (h1, (list, (s, (register, tt)))))) r (tt, (tt, (tt, (tt, (tt, (tt, tt))))))
    (Called self h0.now h1.now list.now (Birth s register) (answer (answer_of r.answer)) (lent r.control h0.now h1.now list.now))
birth_called κs self h0 h1 list s register r = (tt, by_birth s register r)

pub step_called : (κs : Lfts 3) (self : Control) (h0 h1 list : MutSlice) (r : Reply) (h0' h1' list' : List ℕ)
    → Gives step.ended step_reads.Asked step_reads.Learnt κs
    (self, (h0, (h1, (list, tt)))) r (tt, (h0', (h1', (list', tt))))
    (Called self h0.now h1.now list.now Step (answer (answer_of r.answer)) (lent r.control h0' h1' list'))
step_called κs self h0 h1 list r h0' h1' list' = (tt, by_step r h0' h1' list')
