-- What a writer has got: nothing more, bytes behind bytes, and those of a last write.
use Rattle.std.proofs.Common.{ℕ, Bool, true, false, List, [], ◌++◌, Option, Some, None}
use Rattle.std.proofs.KnownBytes.{Appends-nil, Appends-trans}
use Rattle.std.specs.Bool.{OnTrue, then_some}
use Rattle.std.specs.Option.{IfSome}
use Rattle.std.specs.Io.KnownBytes.{Appends}
use Rattle.script.specs.Lines.{Grows}

pub grows_nothing : (u : Option (List ℕ)) → Grows u u
grows_nothing u = ([], Appends-nil u)

pub grows_on : (u v w : Option (List ℕ)) → Grows u v → Grows v w → Grows u w
grows_on u v w (a, x) (b, y) = (a ++ b, Appends-trans u v w a b x y)

pub grows_last : (u v w : Option (List ℕ)) (bs : List ℕ) (r : Bool) → Grows u v → OnTrue r (Appends v w bs) → OnTrue r (Grows u w)
grows_last u v w bs true g a = grows_on u v w g (bs, a)
grows_last u v w bs false g a = tt

pub grows_where : (u v : Option (List ℕ)) (bs : List ℕ) (n : ℕ) (r : Bool) → OnTrue r (Appends u v bs) → IfSome (then_some r n) (λ _. Grows u v)
grows_where u v bs n true a = (bs, a)
grows_where u v bs n false a = tt
