use Rattle.std.proofs.Common.{◌≡◌, ◌⊎◌, ◌∙◌, ◌++◌, ◌∷◌, [], List, false, true, refl, subst, sym}
use Rattle.ospf_notes.specs.Misfits.{is_new_misfit}
use Rattle.ospf_notes.specs.declared.misfits.Misfit.{Misfit}
use Rattle.ospf_notes.specs.Misfits.TellsMisfit.{none_dropped, not_kept, passes, is_old, is_told}
use Rattle.ospf_notes.proofs.misfits.Misfits.due.Goals as goal

pub returns-in_default : goal.returns-in_default
returns-in_default c = none_dropped c.in_default.is refl

pub returns-in_default-kept : goal.returns-in_default-kept
returns-in_default-kept c = not_kept (sym c.in_default-kept.ensures) refl

pub returns-in_default-misfit_in : goal.returns-in_default-misfit_in
returns-in_default-misfit_in c = passes c.in-Some.at c.in-Some-kept.packet.now c.in-Some.is (sym c.in-Some-kept.ensures) c.in_default-misfit_in.ensures refl

pub returns-then-not-is_new : goal.returns-then-not-is_new
returns-then-not-is_new c =
    is_old c.in-Some.at c.in-Some-kept.packet.now c.in-Some-misfit_in.misfit c.in-Some.is (sym c.in-Some-kept.ensures) c.in-Some-misfit_in.ensures
    (subst (λ (told : List Misfit). is_new_misfit told c.in-Some-misfit_in.misfit ≡ false) c.forget.ensures.told (sym c.if-not-is_new.ensures))
    c.forget.ensures.packet c.forget.ensures.period c.forget.ensures.told

pub returns : goal.returns
returns c =
    let m = c.in-Some-misfit_in.misfit in
    is_told c.in-Some.at c.in-Some-kept.packet.now m c.in-Some.is (sym c.in-Some-kept.ensures) c.in-Some-misfit_in.ensures
    (subst (λ (told : List Misfit). is_new_misfit told m ≡ true) c.forget.ensures.told (sym c.if-not-is_new.ensures))
    (c.add.ensures.packet ∙ c.forget.ensures.packet) (c.add.ensures.period ∙ c.forget.ensures.period)
    (subst (λ (told : List Misfit). (c.add.new.self.told ≡ told ++ m ∷ []) ⊎ (c.add.new.self.told ≡ told)) c.forget.ensures.told c.add.ensures.told)
