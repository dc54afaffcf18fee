use Rattle.std.proofs.Common.{rules, ◌≡◌, ◌∙◌, ap, flat_map}
use Rattle.std.specs.Prelude.{IsUtf8}
use Rattle.std.proofs.lemmas.Result.{IfOk-weaker}
use Rattle.ospf_files.specs.AllFaults.{AreAllExplained}
use Rattle.ospf_check.specs.Lines.{each_place, fault_items}
use Rattle.ospf_check.proofs.lines.faults_of.Goals as goal

pub returns-in_ok-faults-in-Ok : goal.returns-in_ok-faults-in-Ok
returns-in_ok-faults-in-Ok c =
    let same : c.in-Ok.text.now ≡ c.args.bytes.now = search rules in
    let text : IsUtf8 c.args.bytes.now = search rules in
    let explained = c.in_ok-faults-in-Ok.ensures in
    let of_bytes : AreAllExplained c.args.bytes.now c.in_ok-faults-in-Ok.faults.items = rw same at explained in
    IfOk-weaker c.places_of.result _ _ (λ values is. each_place c.in_ok-faults-in-Ok.faults.items text of_bytes (is ∙ ap (flat_map fault_items) c.deref.ensures.value)) c.places_of.ensures
