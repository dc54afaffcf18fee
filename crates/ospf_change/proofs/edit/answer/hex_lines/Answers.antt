use Rattle.std.proofs.Common.{◌≡◌, ◌∙◌, ◌+◌, ◌++◌, ◌∷◌, [], ap, arith, get_or, string_bytes, sym, subst, take, take_all, append-nil}
use Rattle.std.specs.List.{All, flat_map}
use Rattle.std.proofs.lemmas.List.{take_more}
use Rattle.std.proofs.lemmas.List.Concat.{flat_map-append}
use Rattle.std.proofs.lemmas.List.Elements.{All-more}
use Rattle.hex.specs.Hex.{IsBytes}
use Rattle.ospf_change.specs.Edit.Lines.{hex_lines, lsa_line}
use Rattle.ospf_change.proofs.edit.answer.hex_lines.Goals as goal

pub loop-lsa-preserved : goal.loop-lsa-preserved
loop-lsa-preserved c =
    let items = c.lsas-lsa-items.result.now in
    let i = c.loop-lsa.lsa-index in
    let lsa = c.lsa-item.result in
    let item : lsa ≡ get_or items i lsa = c.lsa-item.is in
    let more : hex_lines (take (i + 1) items) ≡ hex_lines (take i items) ++ lsa_line lsa =
    ap hex_lines (take_more items i lsa c.loop-lsa-test.true ∙ ap (λ x. take i items ++ x ∷ []) (sym item))
    ∙ flat_map-append lsa_line (take i items) (lsa ∷ []) ∙ ap (λ t. hex_lines (take i items) ++ t) (append-nil (lsa_line lsa)) in
    let bytes = subst IsBytes item c.lsa_line.ensures.bytes in (
      c.in_ok-push_str.ensures.bytes ∙ ap (λ t. t ++ c.deref.result.now) c.loop-lsa.invariant.0
          ∙ ap (λ t. hex_lines (take i items) ++ t) (c.deref.ensures ∙ c.in_ok-line.ensures.text) ∙ sym more,
      All-more IsBytes items i lsa c.loop-lsa-test.true c.loop-lsa.invariant.1 bytes,
    )

pub returns-clause-bytes : goal.returns-clause-bytes
returns-clause-bytes c =
    let items = c.lsas-lsa-items.result.now in
    subst (All IsBytes) (take_all c.loop-lsa.lsa-index items c.loop-lsa-test.false ∙ c.lsas-lsa-items.ensures.lsas) c.loop-lsa.invariant.1
