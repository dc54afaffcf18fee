use Rattle.std.proofs.Common.{◌≡◌, ◌∷◌, ◌∙◌, IfErr, ap, codes, rules, subst, sym}
use Rattle.ospf_script.specs.Expected.{IsLongRoute}
use Rattle.ospf_script.specs.Words.{Text, line_words}
use Rattle.ospf_script.specs.declared.fault.CommandFault.TheVariants.{Memory}
use Rattle.ospf_script.proofs.expect.expected_in.Goals as goal

pub returns-in-Some-clause-memory : goal.returns-in-Some-clause-memory
returns-in-Some-clause-memory c =
    let route : c.in-Some.word.now ≡ codes "route" = search rules in
    subst (λ ws. IfErr c.route_in.result (λ e. e ≡ Memory → IsLongRoute ws))
    (ap (λ (w : Text). w ∷ line_words c.in-Some.rest.now) (sym route) ∙ sym c.in-Some.ensures.word) c.route_in.ensures.memory
