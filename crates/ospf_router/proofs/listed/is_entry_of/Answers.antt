use Rattle.std.proofs.Common.{◌≡◌, ◌-◌, ℕ, List, length, take, drop, ap, sym, ◌∙◌, arith}
use Rattle.std.proofs.lemmas.List.{take_all, length-drop}
use Rattle.std.proofs.lemmas.Slice.Eq.{bytes_eq-Decides}
use Rattle.ospf_router.proofs.listed.is_entry_of.Goals as goal

pub returns : goal.returns
returns c = λ t.
    let all : (xs : List ℕ) → take (length xs - 2) (drop 2 xs) ≡ drop 2 xs = λ xs. take_all (length xs - 2) (drop 2 xs) (omega (arith, length-drop {A = ℕ})) in
    let x = c.as_bytes.result.now in
    let y = c.as_bytes-2.result.now in
    let is : drop 2 x ≡ drop 2 y = sym (all x) ∙ ((bytes_eq-Decides (take (length x - 2) (drop 2 x)) (take (length y - 2) (drop 2 y))).0 (sym c.eq.ensures ∙ t) ∙ all y) in
    ap (λ (bytes : List ℕ). drop 2 bytes) (sym (c.as_bytes.ensures.bytes ∙ c.view-view.ensures.same)) ∙ (is ∙ (ap (λ (bytes : List ℕ). drop 2 bytes) c.as_bytes-2.ensures.bytes ∙ c.lsa-stored.ensures.contents))
