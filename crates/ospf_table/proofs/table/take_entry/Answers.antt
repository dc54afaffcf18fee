use Rattle.std.proofs.Common.{rules}
use Rattle.ospf_lsa.specs.Listing.{HasKey}
use Rattle.ospf_lsa.specs.Lsa.{key_of}
use Rattle.ospf_table.proofs.EntryLemmas.{IsYoungLine, line_listed, line_refused}
use Rattle.ospf_table.proofs.table.take_entry.Goals as goal

pub returns-in-Ok-add-clause-ok : goal.returns-in-Ok-add-clause-ok
returns-in-Ok-add-clause-ok c =
    let absent : HasKey c.args.entries.now (key_of c.with_plain_age-lsa.result) → ⊥ = λ has. absurd (let yet = c.add.ensures.twice.1 has in cc) in
    let line : IsYoungLine c.args.text.now c.in-Ok.lsa c.with_plain_age-lsa.result = record {
      not_blank = search rules;
      decoded = search rules;
      lsa_is = search rules;
      young = search rules;
    } in
    line_listed c.args.text.now c.in-Ok.lsa c.with_plain_age-lsa.result c.args.entries.now c.add.new.self line absent (search rules)

pub returns-in-Err-add-clause-fault : goal.returns-in-Err-add-clause-fault
returns-in-Err-add-clause-fault c =
    let line : IsYoungLine c.args.text.now c.in-Ok.lsa c.with_plain_age-lsa.result = record {
      not_blank = search rules;
      decoded = search rules;
      lsa_is = search rules;
      young = search rules;
    } in
    line_refused c.args.text.now c.in-Ok.lsa c.with_plain_age-lsa.result c.args.entries.now c.in-Err-add.fault line (search rules) (search rules)
