-- The kinds of calls: allocations, other session calls, and calls that are no session calls.
use mathlib.Core.Path.{◌≡◌, refl, sym, ◌∙◌}
use mathlib.Core.Bool.{true, false, true≢false}
use Rattle.rules.specs.Runs.{Call, Attach, Detach, SafePoint, Allocate, Load, StoreRef, StoreLinks, Read, Write, Move, Clear, SameAs, Get, Put, Stretch, Companion, Birth, Step, is_session, is_allocation, Fed}
use Rattle.rules.specs.Free.{Free, free_apply}

-- a call by what is fed for it; only an allocation goes by it
pub data Kind (c : Call) : Type 0 where
  allocation : is_session c ≡ true → is_allocation c ≡ true → Kind c
  unfed : is_session c ≡ true → is_allocation c ≡ false → ((f : Free) (x y : Fed) → free_apply f c x ≡ free_apply f c y) → Kind c
  silent : is_session c ≡ false → is_allocation c ≡ false → Kind c

pub kind : (c : Call) → Kind c
kind (Attach n share) = unfed refl refl (λ f x y. refl)
kind (Detach n) = unfed refl refl (λ f x y. refl)
kind (SafePoint n) = silent refl refl
kind (Allocate n k r p) = allocation refl refl
kind (Load n to k i) = unfed refl refl (λ f x y. refl)
kind (StoreRef n k i from) = unfed refl refl (λ f x y. refl)
kind (StoreLinks n k count xs) = unfed refl refl (λ f x y. refl)
kind (Read n k i) = unfed refl refl (λ f x y. refl)
kind (Write n k i a) = unfed refl refl (λ f x y. refl)
kind (Move n to from) = unfed refl refl (λ f x y. refl)
kind (Clear n k) = unfed refl refl (λ f x y. refl)
kind (SameAs n a b) = unfed refl refl (λ f x y. refl)
kind (Get n to g) = unfed refl refl (λ f x y. refl)
kind (Put n g from) = unfed refl refl (λ f x y. refl)
kind (Stretch n k) = unfed refl refl (λ f x y. refl)
kind (Companion n k) = unfed refl refl (λ f x y. refl)
kind (Birth n k) = unfed refl refl (λ f x y. refl)
kind Step = silent refl refl

-- an allocation is a session call
pub allocation_is_session : {c : Call} → Kind c → is_session c ≡ false → is_allocation c ≡ false
allocation_is_session (allocation a b) e = absurd (true≢false (sym a ∙ e))
allocation_is_session (unfed a b any) e = b
allocation_is_session (silent a b) e = b
