use Rattle.std.proofs.Common.{◌≡◌, Ok, sym, ◌∙◌, arith}
use Rattle.std.proofs.lemmas.Bool.Decides.{nat_tests}
use Rattle.toml.specs.View.{table_view}
use Rattle.ospf_config.specs.Keys.{ReadsHostAddress}
use Rattle.ospf_config.proofs.HostLists.{host_one}
use Rattle.ospf_config.proofs.hosts.is_at_host.Goals as goal

pub returns-in-Ok-Ok : goal.returns-in-Ok-Ok
returns-in-Ok-Ok c =
    let first : ReadsHostAddress (table_view c.args.host.now) c.host_address_at.result = c.host_address_at.ensures in
    let here_ok : ReadsHostAddress (table_view c.args.host.now) (Ok c.in-Ok-Ok.here) = rw c.in-Ok-Ok.is-0 at first in
    let second : ReadsHostAddress (table_view c.args.other.now) c.host_address_at-2.result = c.host_address_at-2.ensures in
    let there_ok : ReadsHostAddress (table_view c.args.other.now) (Ok c.in-Ok-Ok.there) = rw c.in-Ok-Ok.is-1 at second in (
      (λ yes. record { host_address = c.in-Ok-Ok.here; other_address = c.in-Ok-Ok.there; host_reads = here_ok; other_reads = there_ok; same = grind (arith, nat_tests, yes) }),
      λ both.
          let one = host_one (table_view c.args.host.now) both.host_address c.in-Ok-Ok.here both.host_reads here_ok in
          let other = host_one (table_view c.args.other.now) both.other_address c.in-Ok-Ok.there both.other_reads there_ok in
          let same : c.in-Ok-Ok.here.0 ≡ c.in-Ok-Ok.there.0 = sym one ∙ both.same ∙ other in
          grind (arith, nat_tests, same),
    )
