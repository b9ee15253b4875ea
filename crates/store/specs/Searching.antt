-- The session that a phase works on.
use Rattle.std.specs.Prelude.{ℕ, Option, List, not, ◌&&◌, position}
use Rattle.rules.specs.declared.Session.{Session}

-- the lowest attached one without a scanned mark
abbrev pub lowest_unscanned : List Session → Option ℕ
lowest_unscanned xs = position (λ (x : Session). x.attached && not x.scanned) xs
