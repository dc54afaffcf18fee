use Rattle.std.proofs.Common.{rules, ◌≡◌, [], ◌∷◌, ◌++◌, ap, sym, subst}
use Rattle.std.specs.Prelude.{unwrap_or}
use Rattle.ospf_files.specs.Files.{IsConfigIn, IsRefusedFor}
use Rattle.ospf_check.proofs.Written.{accepted_verdict, refused_verdict}
use Rattle.ospf_check.proofs.check.judge.Goals as goal

pub returns-in_ok-map_err-in-Ok-clause-verdict : goal.returns-in_ok-map_err-in-Ok-clause-verdict
returns-in_ok-map_err-in-Ok-clause-verdict c held =
    let lines = c.in_ok-lines-in-Ok.ensures in
    accepted_verdict _ _ _ _ c.in-Ok.config held c.in-Ok.ensures.ok (rw c.explains.ensures at lines)

pub returns-in_ok-map_err-in-Ok-clause-kept : goal.returns-in_ok-map_err-in-Ok-clause-kept
returns-in_ok-map_err-in-Ok-clause-kept c held =
    let more : c.push.new.self.items ≡ c.args.configs.now.items ++ c.in-Ok.config ∷ [] = search rules in
    (c.in-Ok.config, subst (λ bytes. IsConfigIn bytes c.in-Ok.config) (sym (ap (λ o. unwrap_or o []) held)) c.in-Ok.ensures.ok, more)

pub returns-in_ok-lines-in-Err : goal.returns-in_ok-lines-in-Err
returns-in_ok-lines-in-Err c =
    let refused : IsRefusedFor c.args.bytes.now c.in-Err.fault = search rules in
    let told = c.in_ok-lines-in-Err.ensures refused in
    record { verdict = λ held. refused_verdict _ _ _ _ _ told.0 held refused told.1 told.2; kept = λ held. tt }
