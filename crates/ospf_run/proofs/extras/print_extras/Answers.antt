use Rattle.std.proofs.Common.{◌++◌, ℕ, List, flat_map, subst}
use Rattle.std.specs.Io.KnownBytes.{Appends}
use Rattle.ospf_base.specs.declared.ids.RouterId.{RouterId}
use Rattle.ospf_files.proofs.Cut.{err_then}
use Rattle.ospf_files.proofs.Written.{front_begun, rest_begun, whatever}
use Rattle.ospf_files.specs.Streams.{IsBegun}
use Rattle.ospf_router.specs.Routers.{RouterValue}
use Rattle.ospf_run.specs.Printed.{drops_of, floor_lines, lsdb_lines, viewed_lines}
use Rattle.ospf_run.specs.declared.outcome.Drops.{Drops}
use Rattle.ospf_run.specs.declared.outcome.Extras.{Extras}
use Rattle.ospf_script.specs.declared.command.View.TheVariants as view
use Rattle.ospf_run.proofs.extras.print_extras.Goals as goal

-- what comes after the neighbours, after the listing, and after the LSDB
abbrev at_last : Extras → RouterId → RouterValue → List ℕ
at_last extras id x = flat_map (drops_of id) extras.drops.items ++ floor_lines extras.floor x

abbrev then_lsdb : Extras → RouterId → RouterValue → List ℕ
then_lsdb extras id x = lsdb_lines extras.lsdb x ++ at_last extras id x

abbrev then_listing : Extras → RouterId → RouterValue → List ℕ
then_listing extras id x = viewed_lines extras.listing view.Listing x ++ then_lsdb extras id x

abbrev first : Extras → RouterValue → List ℕ
first extras x = viewed_lines extras.neighbours view.Neighbours x

pub returns-in_err-print_viewed-clause-begun : goal.returns-in_err-print_viewed-clause-begun
returns-in_err-print_viewed-clause-begun g c =
    let extras = c.args.extras.now in
    let x = c.args.router.now in
    whatever _ (front_begun _ _ (first extras x) (then_listing extras c.args.id x) c.in_err-print_viewed.ensures.begun)

pub returns-in_err-print_viewed-2-clause-begun : goal.returns-in_err-print_viewed-2-clause-begun
returns-in_err-print_viewed-2-clause-begun g c =
    let extras = c.args.extras.now in
    let x = c.args.router.now in
    whatever _ (rest_begun _ _ _ (first extras x) (then_listing extras c.args.id x) c.in_ok-print_viewed.ensures.printed
    (front_begun _ _ (viewed_lines extras.listing view.Listing x) (then_lsdb extras c.args.id x) c.in_err-print_viewed-2.ensures.begun))

pub returns-in_err-print_lsdb-clause-begun : goal.returns-in_err-print_lsdb-clause-begun
returns-in_err-print_lsdb-clause-begun g c =
    let extras = c.args.extras.now in
    let x = c.args.router.now in
    whatever _ (rest_begun _ _ _ (first extras x) (then_listing extras c.args.id x) c.in_ok-print_viewed.ensures.printed
    (rest_begun _ _ _ (viewed_lines extras.listing view.Listing x) (then_lsdb extras c.args.id x) c.in_ok-print_viewed-2.ensures.printed
    (front_begun _ _ (lsdb_lines extras.lsdb x) (at_last extras c.args.id x) c.in_err-print_lsdb.ensures.begun)))

pub returns-in_err-print_drops-clause-begun : goal.returns-in_err-print_drops-clause-begun
returns-in_err-print_drops-clause-begun g c =
    let extras = c.args.extras.now in
    let x = c.args.router.now in
    let begun = subst (λ (ds : List Drops). IsBegun (g.O.Write.contents c.print_lsdb.new.out) (g.O.Write.contents c.print_drops.new.out) (flat_map (drops_of c.args.id) ds))
    c.deref.ensures.value c.in_err-print_drops.ensures.begun in
    whatever _ (rest_begun _ _ _ (first extras x) (then_listing extras c.args.id x) c.in_ok-print_viewed.ensures.printed
    (rest_begun _ _ _ (viewed_lines extras.listing view.Listing x) (then_lsdb extras c.args.id x) c.in_ok-print_viewed-2.ensures.printed
    (rest_begun _ _ _ (lsdb_lines extras.lsdb x) (at_last extras c.args.id x) c.in_ok-print_lsdb.ensures.printed
    (front_begun _ _ (flat_map (drops_of c.args.id) extras.drops.items) (floor_lines extras.floor x) begun))))

pub returns-clause-begun : goal.returns-clause-begun
returns-clause-begun g c =
    let extras = c.args.extras.now in
    let x = c.args.router.now in
    let dropped = subst (λ (ds : List Drops). Appends (g.O.Write.contents c.print_lsdb.new.out) (g.O.Write.contents c.print_drops.new.out) (flat_map (drops_of c.args.id) ds))
    c.deref.ensures.value c.in_ok-print_drops.ensures.printed in
    err_then c.print_floor.result (λ begun. rest_begun _ _ _ (first extras x) (then_listing extras c.args.id x) c.in_ok-print_viewed.ensures.printed
    (rest_begun _ _ _ (viewed_lines extras.listing view.Listing x) (then_lsdb extras c.args.id x) c.in_ok-print_viewed-2.ensures.printed
    (rest_begun _ _ _ (lsdb_lines extras.lsdb x) (at_last extras c.args.id x) c.in_ok-print_lsdb.ensures.printed
    (rest_begun _ _ _ (flat_map (drops_of c.args.id) extras.drops.items) (floor_lines extras.floor x) dropped begun))))
    c.print_floor.ensures.begun
