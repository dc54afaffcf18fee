-- The report of a listing.
use Rattle.std.proofs.Common.{◌≡◌, ◌≢◌, ◌++◌, ◌∷◌, ◌⊎◌, ℕ, List, [], String, lit<, vec_items, refl, sym, ap, subst, ◌∙◌, inl, inr}
use Rattle.std.specs.List.{All, AllZip}
use Rattle.std.specs.declared.alloc.Global.{Global}
use Rattle.std.proofs.lemmas.List.Elements.{All-append, All-cons, All-nil}
use Rattle.ospf_graph.specs.Advertisements.{Advertisement}
use Rattle.ospf_whatif.specs.declared.failure.AreaFailure.{AreaFailure}
use Rattle.ospf_change.specs.Edit.Answer.{HasWords}
use Rattle.ospf_change.specs.Edit.Change.{HasRightCost, IsCost, cost_of, picks}
use Rattle.ospf_change.specs.Edit.Words.{AreJobChanges, IsWordFor, Names}
use Rattle.ospf_change.specs.declared.edit.change.Change.{Change}
use Rattle.ospf_change.specs.declared.edit.change.Change.TheVariants as change
use Rattle.ospf_change.specs.declared.edit.words.EditJob.{EditJob}
use Rattle.ospf_change.specs.declared.edit.words.WordKind.{WordKind}
use Rattle.ospf_change.specs.declared.edit.words.WordKind.TheVariants.{Down, Cost, Drain}

-- ---- costs that words name are right

right_by : (c : Change) → IsCost (cost_of c) → HasRightCost c
right_by (change.Down f) is = tt
right_by (change.Cost r a n) is = is
right_by (change.CostTo r o n) is = is
right_by (change.Drain r) is = is

named_right : (A : List Advertisement) (single : List AreaFailure) (kind : WordKind) (word : String Global) (c : Change) → IsWordFor A single kind word c → HasRightCost c
named_right A single Down word c named = subst HasRightCost (sym named.1) tt
named_right A single Cost word c named = right_by c named.3.2.cost_is
named_right A single Drain word c named = subst HasRightCost (sym named.1) (lit< tt, lit< tt)

all_right : (A : List Advertisement) (single : List AreaFailure) (kind : WordKind) (words : List (String Global)) (changes : List Change)
    → AllZip (IsWordFor A single kind) words changes → All HasRightCost changes
all_right A single kind [] [] zip = All-nil HasRightCost
all_right A single kind [] (c ∷ changes) zip = absurd zip
all_right A single kind (w ∷ words) [] zip = absurd zip
all_right A single kind (w ∷ words) (c ∷ changes) zip = All-cons HasRightCost c changes (named_right A single kind w c zip.0) (all_right A single kind words changes zip.1)

pub job_right : (A : List Advertisement) (job : EditJob) (changes : List Change) → AreJobChanges A job changes → All HasRightCost changes
job_right A job changes are =
    let downs = all_right A are.single Down (vec_items job.down) are.downs.0 are.downs.1 in
    let costs = all_right A are.single Cost (vec_items job.costs) are.costs.0 are.costs.1 in
    let drains = all_right A are.single Drain (vec_items job.drains) are.drains.0 are.drains.1 in
    subst (All HasRightCost) (sym are.changes_are) (All-append HasRightCost (are.downs.0 ++ are.costs.0) are.drains.0 (All-append HasRightCost are.downs.0 are.costs.0 downs costs) drains)

-- ---- where something is changed, there are words

no_change : (A : List Advertisement) (single : List AreaFailure) (kind : WordKind) (changes : List Change) → AllZip (IsWordFor A single kind) [] changes → changes ≡ []
no_change A single kind [] zip = refl
no_change A single kind (c ∷ changes) zip = absurd zip

cases_of : {X : Type 0} (xs : List X) → (xs ≡ []) ⊎ (xs ≢ [])
cases_of [] = inl refl
cases_of (x ∷ xs) = inr (λ e. cc)

pub some_words : (A : List Advertisement) (job : EditJob) (changes : List Change) → AreJobChanges A job changes → changes ≢ [] → HasWords job
some_words A job changes are some =
    elim (cases_of (vec_items job.down)) [
      | inr downs ↦ inl (inl downs)
      | inl no_downs ↦ elim (cases_of (vec_items job.costs)) [
        | inr costs ↦ inl (inr costs)
        | inl no_costs ↦ elim (cases_of (vec_items job.drains)) [
          | inr drains ↦ inr drains
          | inl no_drains ↦
              let one = no_change A are.single Down are.downs.0 (subst (λ (w : List (String Global)). AllZip (IsWordFor A are.single Down) w are.downs.0) no_downs are.downs.1) in
              let two = no_change A are.single Cost are.costs.0 (subst (λ (w : List (String Global)). AllZip (IsWordFor A are.single Cost) w are.costs.0) no_costs are.costs.1) in
              let three = no_change A are.single Drain are.drains.0 (subst (λ (w : List (String Global)). AllZip (IsWordFor A are.single Drain) w are.drains.0) no_drains are.drains.1) in
              absurd (some (are.changes_are ∙ (λ i. one i ++ two i ++ three i)))
        ]
      ]
    ]
