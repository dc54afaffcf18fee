use Rattle.std.proofs.Common.{rules, ◌≡◌, ◌∙◌, [], ap, map, string_bytes, subst}
use Rattle.std.proofs.lemmas.Result.{IfOk-weaker}
use Rattle.serde_json.specs.View.{view}
use Rattle.ospf_files.specs.Files.{IsConfigIn, IsRefusedFor}
use Rattle.ospf_check.specs.Lines.{AreFaultItems, accepted, config_warnings, file_line_data, refused}
use Rattle.ospf_check.proofs.lines.file_value.Goals as goal

pub returns-in_ok-warnings-in-Ok : goal.returns-in_ok-warnings-in-Ok
returns-in_ok-warnings-in-Ok c =
    let name = string_bytes c.args.file.now.name in
    let warnings = map view c.in_ok-warnings-in-Ok.warnings.items in
    let read = subst (λ bytes. IsConfigIn bytes c.in-Ok.config) c.text.ensures c.in-Ok.ensures.ok in
    let none : c.new.result.items ≡ [] = search rules in
    let is : file_line_data (map view c.new.result.items) c.deref.result.now warnings ≡ file_line_data [] name (config_warnings c.in-Ok.config) =
    (ap (λ f. file_line_data (map view f) c.deref.result.now warnings) none ∙ ap (λ n. file_line_data [] n warnings) c.deref.ensures ∙ ap (λ w. file_line_data [] name w) c.in_ok-warnings-in-Ok.ensures) in
    IfOk-weaker c.object_of.result _ _ (λ value seen. accepted c.in-Ok.config read (seen ∙ is)) c.object_of.ensures

pub returns-in_ok-faults-in-Err : goal.returns-in_ok-faults-in-Err
returns-in_ok-faults-in-Err c =
    let name = string_bytes c.args.file.now.name in
    let faults = map view c.in_ok-faults-in-Err.faults.items in
    let because : IsRefusedFor c.text.result.now c.in-Err.field-0 = search rules in
    let of_file = subst (λ bytes. IsRefusedFor bytes c.in-Err.field-0) c.text.ensures because in
    let are = subst (λ bytes. AreFaultItems bytes faults) c.text-in-Err.ensures c.in_ok-faults-in-Err.ensures in
    let none : c.new-in-Err.result.items ≡ [] = search rules in
    let is : file_line_data faults c.deref-in-Err.result.now (map view c.new-in-Err.result.items) ≡ file_line_data faults name [] =
    (ap (λ w. file_line_data faults c.deref-in-Err.result.now (map view w)) none ∙ ap (λ n. file_line_data faults n []) c.deref-in-Err.ensures) in
    IfOk-weaker c.object_of-in-Err.result _ _ (λ value seen. refused c.in-Err.field-0 faults of_file are (seen ∙ is)) c.object_of-in-Err.ensures
