use Rattle.std.proofs.Common.{◌≡◌, ◌∙◌, [], ◌∷◌, ◌++◌, ap, refl}
use Rattle.ospf_files.specs.declared.all.FaultExplained.{FaultExplained}
use Rattle.ospf_config.specs.declared.fault.ConfigFault.TheVariants as fault
use Rattle.ospf_files.proofs.FaultsTold.{all_of_no_toml}
use Rattle.ospf_files.proofs.all.no_toml_at.Goals as goal

pub returns : goal.returns
returns c none =
    let e : FaultExplained = record { fault = fault.NotToml; places = c.in_ok-places.places } in
    let one : c.push.new.self.items ≡ e ∷ [] = c.in_ok-push.ensures.items ∙ ap (λ es. es ++ e ∷ []) c.new-out.ensures.items in
    rw one (all_of_no_toml c.args.text.now e none refl c.in_ok-places.ensures)
