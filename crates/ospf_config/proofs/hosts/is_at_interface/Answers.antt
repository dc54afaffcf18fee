use Rattle.std.proofs.Common.{◌≡◌, Ok, sym, ◌∙◌, arith}
use Rattle.std.proofs.lemmas.Bool.{false≢true}
use Rattle.std.proofs.lemmas.Bool.Decides.{nat_tests}
use Rattle.toml.specs.View.{table_view}
use Rattle.ospf_config.specs.Keys.{ReadsHostAddress, ReadsInterfaceAddress}
use Rattle.ospf_config.proofs.ConflictLists.{table_one}
use Rattle.ospf_config.proofs.HostLists.{host_one, no_host, no_address}
use Rattle.ospf_config.proofs.hosts.is_at_interface.Goals as goal

pub returns-in-Err : goal.returns-in-Err
returns-in-Err c =
    ((λ yes. absurd (false≢true yes)), λ both. absurd (no_host (table_view c.args.host.now) c.host_address_at.result _ both.host_address c.in-Err.is c.host_address_at.ensures both.host_reads))

pub returns-in-Err-address_at : goal.returns-in-Err-address_at
returns-in-Err-address_at c =
    ((λ yes. absurd (false≢true yes)), λ both. absurd (no_address c.args.rfc3021 (table_view c.args.interface.now) c.address_at.result _ both.interface_address c.in-Err-address_at.is c.address_at.ensures both.interface_reads))

pub returns-in-Ok-address_at : goal.returns-in-Ok-address_at
returns-in-Ok-address_at c =
    let q = c.args.rfc3021 in
    let host = table_view c.args.host.now in
    let interface = table_view c.args.interface.now in
    let first : ReadsHostAddress host c.host_address_at.result = c.host_address_at.ensures in
    let second : ReadsInterfaceAddress q interface c.address_at.result = c.address_at.ensures in
    let here_ok : ReadsHostAddress host (Ok c.in-Ok.here) = rw c.in-Ok.is at first in
    let there_ok : ReadsInterfaceAddress q interface (Ok c.in-Ok-address_at.there) = rw c.in-Ok-address_at.is at second in (
      (λ yes. record { host_address = c.in-Ok.here; interface_address = c.in-Ok-address_at.there; host_reads = here_ok; interface_reads = there_ok; same = grind (arith, nat_tests, yes) }),
      λ both.
          let one = host_one host both.host_address c.in-Ok.here both.host_reads here_ok in
          let other = table_one q interface both.interface_address c.in-Ok-address_at.there both.interface_reads there_ok in
          let same : c.in-Ok.here.0 ≡ c.in-Ok-address_at.there.address.0 = sym one ∙ both.same ∙ other.0 in
          grind (arith, nat_tests, same),
    )
