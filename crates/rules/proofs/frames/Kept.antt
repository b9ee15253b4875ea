-- What a frame keeps: records, and the words that are not among those changed.
use Prim.Native.Nat.{ℕ, ◌≤◌, ◌<◌}
use mathlib.Core.Path.{◌≡◌}
use native.Mathlib.Omega.{arith}
use Rattle.rules.specs.Memory.{Memory, colour, replica, birth_number, refs, plains, header, colour_at, replica_at, birth_at, ref_field, plain_field}
use Rattle.rules.proofs.memory.Records.{Start, size-least, ref_inside, plain_inside}
use Rattle.rules.proofs.invariant.Words.{In, Ok, Clean, field, plain_of, fwd}
use Rattle.rules.proofs.invariant.Carried.{in_carried, ok_carried, fwd_carried, clean_carried}
use Rattle.rules.proofs.frames.Frame.{Frame}
use Rattle.rules.proofs.frames.Change.{refs-kept}

-- ---- words that are the same in M' as in M, over the records of M (of half h)
abbrev pub ColoursSame : Memory → Memory → Type 0
ColoursSame M M' = (v : ℕ) → Start M v → colour M' v ≡ colour M v

abbrev pub ReplicasSame : Memory → Memory → Type 0
ReplicasSame M M' = (v : ℕ) → Start M v → replica M' v ≡ replica M v

abbrev pub BirthsSame : Memory → Memory → Type 0
BirthsSame M M' = (v : ℕ) → Start M v → birth_number M' v ≡ birth_number M v

abbrev pub RefsSame : Memory → Memory → ℕ → Type 0
RefsSame M M' h = (v i : ℕ) → In M h v → i < refs M v → field M' v i ≡ field M v i

abbrev pub PlainsSame : Memory → Memory → ℕ → Type 0
PlainsSame M M' h = (v i : ℕ) → In M h v → i < plains M v → plain_of M' v i ≡ plain_of M v i

module _ {M M' : Memory} {Q : ℕ → ℕ → Type 0} (F : Frame M M' Q) where
  -- ---- records
  pub in_to : {h v : ℕ} → In M h v → In M' h v
  in_to t = in_carried F.to t

  pub in_back : {h v : ℕ} → In M' h v → In M h v
  in_back t = in_carried F.back t

  pub ok_to : {v : ℕ} → Ok M v → Ok M' v
  ok_to o = ok_carried F.to o

  -- ---- words
  pub colour-kept : {v : ℕ} → Start M v → ¬ Q v colour_at → colour M' v ≡ colour M v
  unfolding colour
  colour-kept {v} t n = F.same t colour_at (omega (arith, size-least M v)) n

  pub replica-kept : {v : ℕ} → Start M v → ¬ Q v replica_at → replica M' v ≡ replica M v
  unfolding replica
  replica-kept {v} t n = F.same t replica_at (omega (arith, size-least M v)) n

  pub field-kept : {v : ℕ} → Start M v → (i : ℕ) → i < refs M v → ¬ Q v (ref_field i) → field M' v i ≡ field M v i
  field-kept {v} t i l n = F.same t (ref_field i) (ref_inside M v i l) n

  pub plain_kept : {v : ℕ} → Start M v → (i : ℕ) → i < plains M v → ¬ Q v (plain_field (refs M v) i) → plain_of M' v i ≡ plain_of M v i
  plain_kept {v} t i l n = rw (refs-kept F t) (F.same t (plain_field (refs M v) i) (plain_inside M v i l) n)

  pub colours_kept : ((v : ℕ) → ¬ Q v colour_at) → ColoursSame M M'
  colours_kept n v t = colour-kept t (n v)

  pub replicas_kept : ((v : ℕ) → ¬ Q v replica_at) → ReplicasSame M M'
  replicas_kept n v t = replica-kept t (n v)

  pub births-kept : ((v : ℕ) → ¬ Q v birth_at) → BirthsSame M M'
  unfolding birth_number
  births-kept n v t = F.same t birth_at (omega (arith, size-least M v)) (n v)

  -- no word past the header changes
  pub fields-kept : (h : ℕ) → ((v j : ℕ) → header ≤ j → ¬ Q v j) → RefsSame M M' h
  fields-kept h n v i t l = field-kept t.start i l (n v (ref_field i) (omega arith))

  pub plain_fields-kept : (h : ℕ) → ((v j : ℕ) → header ≤ j → ¬ Q v j) → PlainsSame M M' h
  plain_fields-kept h n v i t l = plain_kept t.start i l (n v (plain_field (refs M v) i) (omega arith))

  -- ---- what is made of them
  pub fwd_kept : ReplicasSame M M' → (to : ℕ) {v : ℕ} → Ok M v → fwd M' to v ≡ fwd M to v
  fwd_kept r to {v} o = fwd_carried M' to (r v) o

  pub clean_kept : ColoursSame M M' → {h v : ℕ} → Ok M v → Clean M h v → Clean M' h v
  clean_kept c {h} {v} o k = clean_carried M' (λ t n. rw (c v t) n) o k
