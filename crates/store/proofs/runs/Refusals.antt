-- Claim 1 of the code.
use mathlib.Core.Path.{sym, ap, ◌∙◌}
use Rattle.rules.specs.Control.{Store}
use Rattle.rules.specs.Claims.{RefusalsKeep}
use Rattle.rules.proofs.claims.Refusals.{refusals_keep}
use Rattle.store.specs.View.{view}
use Rattle.store.specs.CodeRuns.{Lent, lent}
use Rattle.store.specs.CodeClaims.{CodeRefusalsKeep}
use Rattle.store.proofs.view.Faithful.{control_of}
use Rattle.store.proofs.runs.Runs.{called_applies}

-- what is lent, by its view
abbrev lent_of : Store → Lent
lent_of s = lent (control_of s) s.memory.half0 s.memory.half1 s.list.words

pub code_refusals_keep : CodeRefusalsKeep
unfolding CodeRefusalsKeep RefusalsKeep
code_refusals_keep self h0 h1 list c n b called =
    let k = called_applies called in
    ap lent_of (ap (λ o. o.store) k ∙ refusals_keep (view self h0 h1 list) c n (sym (ap (λ o. o.reply) k)))
