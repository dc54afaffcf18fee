use Rattle.std.proofs.Common.{rules, ◌≡◌, ◌≤◌, ◌++◌, ℕ, List, [], length, take, subst, sym, ◌∙◌, arith, string_bytes}
use Rattle.std.proofs.lemmas.List.{take_all}
use Rattle.ospf_graph.specs.EdgeLists.Listed.{advertisements_of}
use Rattle.ospf_inspect.specs.Lines.{AreLines, no_lines}
use Rattle.ospf_inspect.proofs.LineLemmas.{lines_at, lines_next}
use Rattle.ospf_inspect.specs.Tables.{SaysTableLineOf}
use Rattle.ospf_inspect.proofs.tables.tables_lines.Goals as goal

pub returns : goal.returns
returns c =
    let end : length c.lsas-lsa-items.result.now ≤ c.loop-lsa.lsa-index = omega (arith, c.loop-lsa-test.false) in
    let all : take c.loop-lsa.lsa-index c.lsas-lsa-items.result.now ≡ c.args.listing.now = take_all c.loop-lsa.lsa-index c.lsas-lsa-items.result.now end ∙ c.lsas-lsa-items.ensures.lsas in
    subst (λ (xs : List (List ℕ)). AreLines (SaysTableLineOf (advertisements_of c.args.listing.now)) xs (string_bytes c.loop-lsa.text)) all c.loop-lsa.invariant

pub loop-lsa-init : goal.loop-lsa-init
loop-lsa-init c = lines_at (SaysTableLineOf (advertisements_of c.args.listing.now)) [] (sym (search (rules, c.new-text.ensures.bytes))) no_lines

pub loop-lsa-preserved : goal.loop-lsa-preserved
loop-lsa-preserved c =
    let text : string_bytes c.push_str.new.self ≡ string_bytes c.loop-lsa.text ++ string_bytes c.in_ok-line_at.field-0 = search rules in
    lines_at (SaysTableLineOf (advertisements_of c.args.listing.now)) _ (sym text)
    (lines_next (SaysTableLineOf (advertisements_of c.args.listing.now)) c.lsas-lsa-items.result.now c.loop-lsa.lsa-index c.lsa-item.result (string_bytes c.loop-lsa.text)
    (string_bytes c.in_ok-line_at.field-0) c.loop-lsa-test.true c.lsa-item.is c.loop-lsa.invariant c.in_ok-line_at.ensures)
