-- What is printed of the failures of an area at a router.
use Rattle.std.specs.Prelude.{◌≡◌, ◌⊎◌, ℕ, Bool, List, [], IsPermutation}
use Rattle.std.specs.List.Sorted.{IsSorted}
use Rattle.ospf_base.specs.declared.ids.RouterId.{RouterId}
use Rattle.ospf_graph.specs.Advertisements.{Advertisement, IsListed}
use Rattle.ospf_graph.specs.Routes.{IsTable}
use Rattle.ospf_graph.specs.declared.route.Route.{Route}
use Rattle.ospf_table.specs.Head.{head_line}
use Rattle.ospf_harm.specs.Asked.{IsEndBy}
use Rattle.ospf_harm.specs.Carrier.{AreHiddenBy}
use Rattle.ospf_harm.specs.HarmLines.{report_harm_cmp, reports_harm_text, reports_lines}
use Rattle.ospf_harm.specs.Json.{reports_json}
use Rattle.ospf_harm.specs.Reports.{HasCut, IsReported, ReportValue, reports_text}
use Rattle.ospf_harm.specs.declared.asked.FailuresForm.{FailuresForm}
use Rattle.ospf_harm.specs.declared.asked.FailuresForm.TheVariants as form
use Rattle.ospf_harm.specs.declared.asked.FailuresStatus.{FailuresStatus}
use Rattle.ospf_harm.specs.declared.asked.RouterFailures.{RouterFailures}
use Rattle.ospf_harm.specs.declared.hidden.HiddenCost.{HiddenCost}

-- what a strict run reports for a root: some failure cuts a prefix off, or the root's router-LSA is
-- not listed, so that nothing was checked for it
abbrev pub IsUnmetAt : List Advertisement → RouterId → List ReportValue → Type 0
IsUnmetAt adverts root printed = HasCut printed ⊎ (IsListed adverts root → ⊥)

-- reports in a form
abbrev pub changes_in
    : FailuresForm → Bool → RouterId → List HiddenCost → List ReportValue → List ℕ
changes_in form.Text each root hidden printed = reports_text each printed
changes_in form.Json each root hidden printed = reports_json each root hidden printed
changes_in form.JsonLines each root hidden printed = reports_lines each root hidden printed
changes_in form.Harm each root hidden printed = reports_harm_text each printed

-- in the form that is asked for
abbrev pub changes_text : RouterFailures → List HiddenCost → List ReportValue → List ℕ
changes_text asked hidden printed = changes_in asked.form asked.each asked.root hidden printed

-- they are printed by how much they harm
pub record AreReportsByHarm (printed shown : List ReportValue) : Type 0 where
  pub permuted : IsPermutation printed shown
  pub in_order : IsSorted report_harm_cmp shown

-- in the order of their form
abbrev pub AreShownReports : FailuresForm → List ReportValue → List ReportValue → Type 0
AreShownReports form.Text printed shown = shown ≡ printed
AreShownReports form.Json printed shown = shown ≡ printed
AreShownReports form.JsonLines printed shown = AreReportsByHarm printed shown
AreShownReports form.Harm printed shown = AreReportsByHarm printed shown

-- the reports that are asked for, of the area at the root, in their form
pub record SaysChanges (asked : RouterFailures) (adverts : List Advertisement) (text : List ℕ)
    (end : FailuresStatus) : Type 0 where
  pub table : List Route
  pub is_table : IsTable adverts asked.root table
  pub printed : List ReportValue
  pub reported : IsReported asked.carrier adverts asked.root table printed
  pub shown : List ReportValue
  pub are_shown : AreShownReports asked.form printed shown
  pub hidden : List HiddenCost
  pub are_hidden : AreHiddenBy asked.carrier adverts hidden
  pub text_is : text ≡ changes_text asked hidden shown
  pub ends : IsEndBy asked.strict (IsUnmetAt adverts asked.root printed) end

-- the line before those of failures: in version 2 of the JSON what was read, and the warning
abbrev pub form_head : FailuresForm → List (List ℕ) → ℕ → List ℕ → List ℕ
form_head form.Text listing left_out warning = []
form_head form.Json listing left_out warning = []
form_head form.JsonLines listing left_out warning = head_line listing left_out warning
form_head form.Harm listing left_out warning = []
