use Rattle.std.proofs.Common.{rules, ◌≡◌, ◌++◌, ◌∙◌, ap, append_assoc, length, string_bytes}
use Rattle.ospf_check.specs.Lines.{check_head_data, value_line}
use Rattle.ospf_check.proofs.lines.checked_of.Goals as goal

pub returns : goal.returns
returns c =
    let of_files = string_bytes c.in_ok-of_files.of_files in
    let together = string_bytes c.in_ok-together.together.text in
    let head : string_bytes c.in_ok-text.text ≡ value_line (check_head_data (length c.args.files.now)) = search rules in
    let first : string_bytes c.push_str.new.self ≡ string_bytes c.in_ok-text.text ++ of_files = search rules in
    let then : string_bytes c.push_str-2.new.self ≡ string_bytes c.push_str.new.self ++ together = search rules in
    record {
      of_files = of_files;
      are_files = c.in_ok-of_files.ensures;
      together = together;
      are_together = c.in_ok-together.ensures;
      text_is = then ∙ ap (λ l. l ++ together) first ∙ ap (λ l. (l ++ of_files) ++ together) head ∙ append_assoc (value_line (check_head_data (length c.args.files.now))) of_files together;
    }
