use Rattle.std.proofs.Common.{◌-◌, ℕ, List, length, take, drop, ap, ◌∙◌, arith}
use Rattle.std.proofs.lemmas.List.{take_all, length-drop}
use Rattle.std.specs.Str.{bytes_eq}
use Rattle.ospf_originate.proofs.contents.made.same_rest.Goals as goal

pub returns : goal.returns
returns c =
    let all = λ (xs : List ℕ). take_all (length xs - 18) (drop 18 xs) (omega (arith, length-drop {A = ℕ})) in
    c.eq.ensures
    ∙ ap (λ (xs : List ℕ). bytes_eq xs (take (length c.args.b.now - 18) (drop 18 c.args.b.now))) (all c.args.a.now)
    ∙ ap (λ (ys : List ℕ). bytes_eq (drop 18 c.args.a.now) ys) (all c.args.b.now)
