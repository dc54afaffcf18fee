-- Calls that ask what failures change at a router.
use Rattle.std.specs.Prelude.{◌==◌, if◌then◌else◌, ℕ}
use Rattle.ospf_harm.specs.declared.asked.FailuresForm.{FailuresForm}
use Rattle.ospf_harm.specs.declared.asked.FailuresForm.TheVariants as form
use Rattle.ospf_harm.specs.declared.asked.RouterFailures.{RouterFailures}
use Rattle.ospf_harm.specs.declared.carrier.Carrier.{Carrier}
use Rattle.ospf_harm.specs.declared.carrier.Carrier.TheVariants as carrier
use Rattle.ospf_c.specs.Tables.{router_of}
use Rattle.ospf_c.specs.declared.failures.How.{How}

-- the form of this number
abbrev pub failures_form_of : ℕ → FailuresForm
failures_form_of number =
    if number == 0 then form.Text
    else if number == 1 then form.Harm
    else if number == 2 then form.Json
    else form.JsonLines

-- what carries the links, by its number
abbrev pub carrier_of : ℕ → Carrier
carrier_of number =
    if number == 0 then carrier.Process
    else if number == 1 then carrier.Switch
    else carrier.Direct

-- what is asked at the router of this Router ID
abbrev pub asked_at : ℕ → How → RouterFailures
asked_at root how = record {
  root = router_of root;
  each = how.each;
  strict = how.strict;
  form = failures_form_of how.form;
  carrier = carrier_of how.carrier;
}
