-- Parts of an area, by their names.
use Rattle.std.proofs.Common.{◌≡◌, ◌≢◌, ◌∙◌, ◌<◌, ℕ, suc, List, [], ◌∷◌, ◌++◌, String, ap, refl, sym, subst, take, drop, length, get_or}
use Rattle.std.specs.List.{AllZip}
use Rattle.std.specs.declared.alloc.Global.{Global}
use Rattle.std.proofs.Math.Seq.{drop-cons}
use Rattle.std.proofs.lemmas.List.{take-append-drop}
use Rattle.ospf_graph.specs.Advertisements.{Advertisement}
use Rattle.ospf_whatif.specs.Stubs.{AreAllFailures}
use Rattle.ospf_whatif.specs.declared.failure.AreaFailure.{AreaFailure}
use Rattle.ospf_failures.specs.Without.{IsFaultOfNames, IsFirstAmong, IsFirstUnnamed, IsNamedBy, IsUnnamedHere}
use Rattle.ospf_failures.specs.declared.answer.Unreported.{Unreported}
use Rattle.ospf_failures.specs.declared.answer.Unreported.TheVariants as fault

-- ---- names

pub fault_weaker : (P Q : String Global → Type 0) (f : Unreported) → ((name : String Global) → P name → Q name) → IsFaultOfNames P f → IsFaultOfNames Q f
fault_weaker P Q (fault.Refused text) k is = absurd is
fault_weaker P Q (fault.Unnamed text) k is = (is.0, k is.0 is.1, is.2)
fault_weaker P Q (fault.Failure f) k is = is

-- the first, behind names of these
pub first_among : (single : List AreaFailure) (names : List (String Global)) (i : ℕ) (x : String Global) (failures : List AreaFailure) → i < length names → x ≡ get_or names i x
    → AllZip (IsNamedBy single) (take i names) failures → (name : String Global) → IsUnnamedHere single x name → IsFirstAmong single names name
first_among single names i x failures within is named name here = record {
  before = take i names;
  after = drop (suc i) names;
  names_are =
      sym (take-append-drop i names) ∙ ap (λ (rest : List (String Global)). take i names ++ rest) (drop-cons names i x within)
      ∙ ap (λ (y : String Global). take i names ++ y ∷ drop (suc i) names) (sym is ∙ sym here.0);
  failures = failures;
  named = named;
  unnamed = λ f n. here.1 f (subst (λ (y : String Global). IsNamedBy single y f) here.0 n);
}

pub first_unnamed : (adverts : List Advertisement) (single : List AreaFailure) (names : List (String Global)) → AreAllFailures adverts single → (name : String Global)
    → IsFirstAmong single names name → IsFirstUnnamed adverts names name
first_unnamed adverts single names are name first = record { single = single; are_single = are; first = first }

-- where parts are named, there are names
pub some_named : (single : List AreaFailure) (names : List (String Global)) (failures : List AreaFailure) → AllZip (IsNamedBy single) names failures → failures ≢ [] → names ≢ []
some_named single [] [] zip some none = some refl
some_named single [] (f ∷ failures) zip some none = absurd zip
some_named single (n ∷ names) failures zip some none = cc
