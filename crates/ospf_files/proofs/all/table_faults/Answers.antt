use Rattle.std.proofs.Common.{◌≡◌, ◌==◌, ◌<◌, ◌∙◌, false, true, sym, List, length, refl, take, get_or, arith}
use Rattle.std.specs.Vec.{vec_len}
use Rattle.std.proofs.lemmas.List.{take_all, get_or_default}
use Rattle.toml.specs.View.{table_view}
use Rattle.ospf_config.specs.declared.fault.ConfigFault.{ConfigFault}
use Rattle.ospf_config.specs.declared.fault.ConfigFault.TheVariants as fault
use Rattle.ospf_files.specs.declared.explained.Explained.{Explained}
use Rattle.ospf_files.specs.AllFaults.{no_fault_more}
use Rattle.ospf_files.specs.Explained.{AreTablePlaces}
use Rattle.ospf_files.proofs.FaultsTold.{held_next, passed_next, tells_fault, tells_no, tells_yes}
use Rattle.ospf_files.proofs.all.table_faults.Goals.{then-not-is_empty+in_ok-push, else-not-is_empty}
use Rattle.ospf_files.proofs.all.table_faults.Goals as goal

pub loop-fault-init : goal.loop-fault-init
loop-fault-init c = rw c.new-out.ensures.items no_fault_more

pub loop-fault-preserved : goal.loop-fault-preserved
loop-fault-preserved c =
    let t = table_view c.args.table.now in
    let all = c.faults_of_tables-faults.result in
    let i = c.loop-fault.fault-index in
    let within : i < length all = rw c.faults_of_tables-faults.ensures (omega (arith, c.loop-fault-test.true)) in
    let f : ConfigFault = get_or all i fault.NotToml in
    let at : f ≡ get_or all i f = get_or_default all i _ _ within in
    let places : List Explained = c.in_ok-places.places.items in
    let are : AreTablePlaces t f places = c.in_ok-places.ensures in
    let told = tells_fault t f places are in
    let same : length places ≡ vec_len c.in_ok-places.places = omega arith in
    elim c.if-not-is_empty.branch [
      | then-not-is_empty+in_ok-push w ↦
          let some : (length places == 0) ≡ false = rw same (sym c.is_empty.ensures ∙ w.if-not-is_empty.true) in
          rw (w.out-is, w.in_ok-push.ensures.items) (held_next _ _ all i f _ _ within at c.loop-fault.invariant (tells_yes _ places told some) refl are)
      | else-not-is_empty w ↦
          let none : (length places == 0) ≡ true = rw same (sym c.is_empty.ensures ∙ w.if-not-is_empty.false) in
          rw w.out-is (passed_next _ _ all i f _ within at c.loop-fault.invariant (tells_no _ places told none))
    ]

pub returns : goal.returns
returns c =
    let whole : take c.loop-fault.fault-index c.faults_of_tables-faults.result ≡ c.faults_of_tables-faults.result = take_all _ _ (rw c.faults_of_tables-faults.ensures (omega (arith, c.loop-fault-test.false))) in
    let inv = c.loop-fault.invariant in
    let all = rw whole at inv in
    rw c.faults_of_tables-faults.ensures at all
