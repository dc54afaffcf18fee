-- What is reported of two databases.
use Rattle.std.proofs.Common.{◌≡◌, ◌∙◌, ◌++◌, ◌∷◌, ℕ, List, [], append_assoc, ap, flat_map, inl, inr, refl, subst, sym, string_bytes}
use Rattle.std.specs.Prelude.{◌==◌, IfSome, None, Option, Some, codes, false, length}
use Rattle.ospf_base.specs.declared.ids.RouterId.{RouterId}
use Rattle.ospf_graph.specs.EdgeLists.Listed.{advertisements_of}
use Rattle.ospf_graph.specs.Advertisements.{Advertisement}
use Rattle.ospf_files.specs.declared.report.Report.{Report}
use Rattle.ospf_table.specs.Line.{LeavesOut, Reads, Refuses}
use Rattle.ospf_table.specs.declared.table.EntryFault.{EntryFault}
use Rattle.ospf_whatif.specs.Single.{AreFailures}
use Rattle.ospf_whatif.specs.declared.failure.AreaFailure.{AreaFailure}
use Rattle.ospf_whatif.specs.declared.failure.AreaFailure.TheVariants.{Router}
use Rattle.ospf_change.specs.Diff.Costs.{AreCostChanges, cost_line}
use Rattle.ospf_change.specs.Diff.Elements.{AreElementsChanged, elements_text}
use Rattle.ospf_change.specs.Diff.Report.{IsComparison, IsDiffReport, IsRefusal, IsDatabaseRefusal, IsRefused, AreBothCompared, IsUncompared, IsUnread, WarnsOfDatabase, named_text}
use Rattle.ospf_change.specs.Diff.Sights.{AreRoots, AreRootsAmong, AreSeen, lines_of_router}
use Rattle.ospf_change.specs.Diff.Sums.{status_by, difference_sums_line, difference_sums_of}
use Rattle.ospf_change.specs.declared.diff.costs.CostChange.{CostChange}
use Rattle.ospf_change.specs.declared.diff.report.DiffJob.{DiffJob}
use Rattle.ospf_change.specs.declared.diff.report.DiffNames.{DiffNames}
use Rattle.ospf_change.specs.declared.diff.report.Unread.{Unread}
use Rattle.ospf_change.specs.declared.diff.report.Unread.TheVariants as fault
use Rattle.ospf_change.specs.declared.diff.sights.Sights.{Sights}
use Rattle.ospf_change.specs.declared.diff.sums.DifferenceSums.{DifferenceSums}
use Rattle.ospf_change.proofs.Diffs.ElementLemmas.{only_in}

-- ---- a comparison

roots_are : (A B : List Advertisement) (old new : List AreaFailure) (root : Option RouterId) (routers : List RouterId) → AreFailures A old → AreFailures B new
    → AreRootsAmong old new root routers → AreRoots A B root routers
roots_are A B old new (Some r) routers a b is = is
roots_are A B old new None routers a b is = record {
  rising = is.rising;
  whole = λ r. (
    (λ c. elim ((is.whole r).0 c) [ inl h ↦ inl ((a (Router r)).0 h) | inr h ↦ inr ((b (Router r)).0 h) ]),
    (λ e. (is.whole r).1 (elim e [ inl h ↦ inl ((a (Router r)).1 h) | inr h ↦ inr ((b (Router r)).1 h) ])),
  );
}

pub comparison_is : (A B : List Advertisement) (root : Option RouterId) (old new : List AreaFailure) (elements text : List ℕ) (costs : List CostChange) (routers : List RouterId)
    (seen : Sights) (status : ℕ) → AreFailures A old → AreFailures B new → AreElementsChanged old new elements → AreCostChanges A B costs → AreRootsAmong old new root routers
    → AreSeen A B routers seen → text ≡ (elements ++ flat_map cost_line costs) ++ (string_bytes seen.lines ++ difference_sums_line seen.sums) → status ≡ status_by seen.sums
    → IsComparison A B root text status
comparison_is A B root old new elements text costs routers seen status a b changed are_costs are_roots are_seen text_is status_is =
    let lines = flat_map lines_of_router are_seen.sights in
    let went = elements_text (codes "-") changed.went in
    let came = elements_text (codes "+") changed.came in
    let more = flat_map cost_line costs in
    let last = difference_sums_line (difference_sums_of are_seen.sights) in
    let regrouped : ((went ++ came) ++ more) ++ (lines ++ last) ≡ (((went ++ came) ++ more) ++ lines) ++ last = sym (append_assoc ((went ++ came) ++ more) lines last) in
    record {
      went = changed.went;
      are_went = only_in A B old new changed.went a b changed.are_went;
      came = changed.came;
      are_came = only_in B A new old changed.came b a changed.are_came;
      costs = costs;
      are_costs = are_costs;
      routers = routers;
      are_roots = roots_are A B old new root routers a b are_roots;
      sights = are_seen.sights;
      are_sights = are_seen.are;
      text_is =
          text_is ∙ ap (λ (e : List ℕ). (e ++ more) ++ (string_bytes seen.lines ++ difference_sums_line seen.sums)) changed.text_is
          ∙ ap (λ (l : List ℕ). ((went ++ came) ++ more) ++ (l ++ difference_sums_line seen.sums)) are_seen.lines_are
          ∙ ap (λ (s : DifferenceSums). ((went ++ came) ++ more) ++ (lines ++ difference_sums_line s)) are_seen.sums_are ∙ regrouped;
      status_is = status_is ∙ ap status_by are_seen.sums_are;
    }

-- ---- a report

pub reported : (job : DiffJob) (names : DiffNames) (before after : Option (List ℕ)) (report : Report) (old new : List (List ℕ)) (old_left_out new_left_out : ℕ)
    (warnings_before warnings_after : List ℕ)
    → IfSome before (λ bytes. Reads bytes [] old) → IfSome before (λ bytes. LeavesOut bytes old_left_out)
    → IfSome after (λ bytes. Reads bytes [] new) → IfSome after (λ bytes. LeavesOut bytes new_left_out)
    → WarnsOfDatabase names.before.now old_left_out (advertisements_of old) job.root warnings_before
    → WarnsOfDatabase names.after.now new_left_out (advertisements_of new) job.root warnings_after
    → string_bytes report.warnings ≡ warnings_before ++ warnings_after
    → IsComparison (advertisements_of old) (advertisements_of new) job.root (string_bytes report.text) report.status
    → IfSome before (λ b. IfSome after (λ a. AreBothCompared job names b a report))
reported job names None after report old new n m w v reads leaves reads_too leaves_too warns warns_too warnings compared = tt
reported job names (Some b) None report old new n m w v reads leaves reads_too leaves_too warns warns_too warnings compared = tt
reported job names (Some b) (Some a) report old new n m w v reads leaves reads_too leaves_too warns warns_too warnings compared = record {
  old = old;
  reads_before = reads;
  new = new;
  reads_after = reads_too;
  old_left_out = n;
  leaves_out_before = leaves;
  new_left_out = m;
  leaves_out_after = leaves_too;
  warnings_before = w;
  warns_before = warns;
  warnings_after = v;
  warns_after = warns_too;
  warnings_are = warnings;
  compared = compared;
}

-- where both are compared, that is the report
pub report_is : (job : DiffJob) (names : DiffNames) (before after : Option (List ℕ)) (report : Report) → IfSome before (λ b. IfSome after (λ a. AreBothCompared job names b a report))
    → IfSome before (λ b. IfSome after (λ a. IsDiffReport job names b a report))
report_is job names None after report is = tt
report_is job names (Some b) None report is = tt
report_is job names (Some b) (Some a) report is = inl is

-- ---- a refusal

pub refused_line : (name : List ℕ) (input : Option (List ℕ)) (number : ℕ) (entry : EntryFault) (f : Unread) → IfSome input (λ bytes. Refuses bytes [] number entry)
    → IsRefused name number entry f → IsUnread name input f
refused_line name None number entry (fault.Refused text) refused is = tt
refused_line name (Some bytes) number entry (fault.Refused text) refused is = record { number = number; fault = entry; refused = refused; text_is = is }
refused_line name input number entry (fault.Failure f) refused is = is

-- what is said behind a name
pub named_line : (name line : List ℕ) → (length line == 0) ≡ false → named_text name line ≡ name ++ codes ": " ++ line
named_line name [] e = cc
named_line name (c ∷ rest) e = refl
