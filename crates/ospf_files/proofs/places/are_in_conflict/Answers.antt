use Rattle.std.proofs.Common.{Ok, Err, refl}
use Rattle.std.proofs.lemmas.Bool.{false≢true}
use Rattle.toml.specs.View.{table_view}
use Rattle.ospf_config.specs.Keys.{ReadsInterfaceAddress}
use Rattle.ospf_config.proofs.ConflictLists.{conflict_of_both}
use Rattle.ospf_config.proofs.HostLists.{no_address}
use Rattle.ospf_files.proofs.places.are_in_conflict.Goals as goal

pub returns-in-Ok-Ok : goal.returns-in-Ok-Ok
returns-in-Ok-Ok c =
    let q = c.args.rfc3021 in
    let first : ReadsInterfaceAddress q (table_view c.args.first.now) c.address_at.result = c.address_at.ensures in
    let first_ok : ReadsInterfaceAddress q (table_view c.args.first.now) (Ok c.in-Ok-Ok.one) = rw c.in-Ok-Ok.is-0 at first in
    let second_ok : ReadsInterfaceAddress q (table_view c.args.second.now) (Ok c.in-Ok-Ok.other) = c.in-Ok-Ok.ensures in (
      (λ yes. record { a = c.in-Ok-Ok.one; b = c.in-Ok-Ok.other; first_address = first_ok; second_address = second_ok; conflict = c.conflicts_with.ensures.0 yes }),
      λ both. c.conflicts_with.ensures.1
          (conflict_of_both q (table_view c.args.first.now) (table_view c.args.second.now) both.a both.b c.in-Ok-Ok.one c.in-Ok-Ok.other both.first_address both.second_address first_ok second_ok both.conflict),
    )

pub returns-in_default : goal.returns-in_default
returns-in_default c =
    ((λ yes. absurd (false≢true yes)), λ both. absurd (no_address c.args.rfc3021 (table_view c.args.second.now) (Err c.in_default.field-0-1) _ both.b refl c.in_default.ensures both.second_address))

pub returns-in_default-2 : goal.returns-in_default-2
returns-in_default-2 c =
    ((λ yes. absurd (false≢true yes)), λ both. absurd (no_address c.args.rfc3021 (table_view c.args.first.now) c.address_at.result _ both.a c.in_default.is-0 c.address_at.ensures both.first_address))
