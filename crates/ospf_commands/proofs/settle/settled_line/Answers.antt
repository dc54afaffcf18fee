use Rattle.std.proofs.Common.{rules, ◌≡◌, ◌∙◌, ◌++◌, ap, codes, decimal, string_bytes, List, ℕ}
use Rattle.ospf_commands.proofs.settle.settled_line.Goals as goal

pub returns : goal.returns
returns c =
    let first : string_bytes c.in_ok-line.line ≡ codes "settled in round " ++ decimal c.args.rounds = search (rules, c.in_ok-line.ensures.ok) in
    let rest : c.deref.result.now ≡ codes ", unchanged for " ++ decimal c.args.still ++ codes " more\n" = search (rules, c.in_ok-rest.ensures.ok, c.deref.ensures) in
    c.in_ok-push_str.ensures.bytes ∙ ap (λ (l : List ℕ). l ++ c.deref.result.now) first ∙ ap (λ (l : List ℕ). codes "settled in round " ++ decimal c.args.rounds ++ l) rest
