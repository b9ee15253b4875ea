-- The contract of each function of the directory, as the checker has it, is the function's case of a run: a changed contract is
-- refused here.
use Prim.Native.Nat.{ℕ}
use mathlib.Core.List.{List, []}
use contract.Lifetimes.{Lfts}
use denote.MutBor.{MutBor}
use Rattle.store.specs.CodeRuns.{lent}
use Rattle.store.specs.declared.Control.{Control}
use Rattle.store.proofs.runs.Contracts.{Slice, Gives}
use Rattle.directory_rules.specs.Table.{Open, Add, Remove, Make, Join, Leave, Members}
use Rattle.directory.specs.CodeRuns.{given, Answered, by_open, by_add, by_remove, by_make_group, by_join, by_leave, by_list_members}
use Rattle.directory.specs.declared.Reply.{Reply}
use Rattle.directory.specs.contracts.calls.open as opens
use Rattle.directory.proofs.calls.open.Reads as open_reads
use Rattle.directory.specs.contracts.calls.add as add
use Rattle.directory.proofs.calls.add.Reads as add_reads
use Rattle.directory.specs.contracts.calls.remove as remove
use Rattle.directory.proofs.calls.remove.Reads as remove_reads
use Rattle.directory.specs.contracts.calls.make_group as make_group
use Rattle.directory.proofs.calls.make_group.Reads as make_group_reads
use Rattle.directory.specs.contracts.calls.join as join
use Rattle.directory.proofs.calls.join.Reads as join_reads
use Rattle.directory.specs.contracts.calls.leave as leave
use Rattle.directory.proofs.calls.leave.Reads as leave_reads
use Rattle.directory.specs.contracts.calls.list_members as list_members
use Rattle.directory.proofs.calls.list_members.Reads as list_members_reads

-- words lent by `&mut`
abbrev Changing : Type 0
Changing = MutBor (List ℕ)

pub open_answered : (κs : Lfts 3) (control : Control) (h0 h1 list : Slice) (share : ℕ) (r : Reply)
    → Gives opens.ended open_reads.Asked open_reads.Learnt κs
    (control, (h0, (h1, (list, (share, tt))))) r (tt, (tt, (tt, (tt, (tt, tt)))))
    (Answered control h0.now h1.now list.now (Open share) (given r []) (lent r.control h0.now h1.now list.now))
open_answered κs control h0 h1 list share r = (tt, by_open share r)

pub add_answered : (κs : Lfts 3) (control : Control) (h0 h1 list : Changing) (person : ℕ) (r : Reply) (h0' h1' list' : List ℕ)
    → Gives add.ended add_reads.Asked add_reads.Learnt κs
    (control, (h0, (h1, (list, (person, tt))))) r (tt, (h0', (h1', (list', (tt, tt)))))
    (Answered control h0.now h1.now list.now (Add person) (given r []) (lent r.control h0' h1' list'))
add_answered κs control h0 h1 list person r h0' h1' list' = (tt, by_add person r h0' h1' list')

pub remove_answered : (κs : Lfts 3) (control : Control) (h0 h1 list : Changing) (person : ℕ) (r : Reply) (h0' h1' list' : List ℕ)
    → Gives remove.ended remove_reads.Asked remove_reads.Learnt κs
    (control, (h0, (h1, (list, (person, tt))))) r (tt, (h0', (h1', (list', (tt, tt)))))
    (Answered control h0.now h1.now list.now (Remove person) (given r []) (lent r.control h0' h1' list'))
remove_answered κs control h0 h1 list person r h0' h1' list' = (tt, by_remove person r h0' h1' list')

pub make_group_answered : (κs : Lfts 3) (control : Control) (h0 h1 list : Changing) (group : ℕ) (r : Reply) (h0' h1' list' : List ℕ)
    → Gives make_group.ended make_group_reads.Asked make_group_reads.Learnt κs
    (control, (h0, (h1, (list, (group, tt))))) r (tt, (h0', (h1', (list', (tt, tt)))))
    (Answered control h0.now h1.now list.now (Make group) (given r []) (lent r.control h0' h1' list'))
make_group_answered κs control h0 h1 list group r h0' h1' list' = (tt, by_make_group group r h0' h1' list')

pub join_answered : (κs : Lfts 3) (control : Control) (h0 h1 list : Changing) (person group : ℕ) (r : Reply) (h0' h1' list' : List ℕ)
    → Gives join.ended join_reads.Asked join_reads.Learnt κs
    (control, (h0, (h1, (list, (person, (group, tt)))))) r (tt, (h0', (h1', (list', (tt, (tt, tt))))))
    (Answered control h0.now h1.now list.now (Join person group) (given r []) (lent r.control h0' h1' list'))
join_answered κs control h0 h1 list person group r h0' h1' list' = (tt, by_join person group r h0' h1' list')

pub leave_answered : (κs : Lfts 3) (control : Control) (h0 h1 list : Changing) (person group : ℕ) (r : Reply) (h0' h1' list' : List ℕ)
    → Gives leave.ended leave_reads.Asked leave_reads.Learnt κs
    (control, (h0, (h1, (list, (person, (group, tt)))))) r (tt, (h0', (h1', (list', (tt, (tt, tt))))))
    (Answered control h0.now h1.now list.now (Leave person group) (given r []) (lent r.control h0' h1' list'))
leave_answered κs control h0 h1 list person group r h0' h1' list' = (tt, by_leave person group r h0' h1' list')

pub list_members_answered : (κs : Lfts 4) (control : Control) (h0 h1 list : Slice) (group : ℕ) (out : Changing) (r : Reply) (out' : List ℕ)
    → Gives list_members.ended list_members_reads.Asked list_members_reads.Learnt κs
    (control, (h0, (h1, (list, (group, (out, tt)))))) r (tt, (tt, (tt, (tt, (tt, (out', tt))))))
    (Answered control h0.now h1.now list.now (Members group out.now) (given r out') (lent r.control h0.now h1.now list.now))
list_members_answered κs control h0 h1 list group out r out' = (tt, by_list_members group out.now out' r)
