use Rattle.std.proofs.Common.{rules, ◌≡◌, ◌∙◌, ap, inr, refl, subst}
use Rattle.ospf_files.specs.Files.{unread_line}
use Rattle.std.specs.Io.KnownBytes.{Appends}
use Rattle.ospf_files.specs.declared.streams.FailedStreams.{FailedStreams}
use Rattle.ospf_check.specs.Checked.{no_error, no_memory, not_read}
use Rattle.ospf_check.proofs.check.tell_unread.Goals as goal

pub returns-in_default : goal.returns-in_default
returns-in_default g c how out unread = no_memory refl refl

pub returns-in-Ok-tell : goal.returns-in-Ok-tell
returns-in-Ok-tell g c how out unread =
    let shown : c.deref.result.now ≡ unread_line c.args.file.now = search (rules, c.deref.ensures ∙ c.in-Ok.ensures.ok) in
    not_read unread refl (subst (Appends _ _) shown c.in-Ok-tell.ensures.told.1)

pub returns : goal.returns
returns g c how out unread =
    let shown : c.deref.result.now ≡ unread_line c.args.file.now = search (rules, c.deref.ensures ∙ c.in-Ok.ensures.ok) in
    no_error c.in-Err.failure c.deref.result.now c.in-Err.ensures.failure (ap (λ (s : FailedStreams). s.error) c.in-Err.ensures.failed) (inr (unread, shown)) refl c.in-Err.ensures.begun
