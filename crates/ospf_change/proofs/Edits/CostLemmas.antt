-- Links that keep their costs.
use Rattle.std.proofs.Common.{◌≡◌, ◌==◌, ◌&&◌, ◌||◌, ◌↔◌, ◌∷◌, ◌++◌, ◌+◌, ◌<◌, ◌≤◌, [], ℕ, Bool, true, false, not, List, map, take, length, get_or, refl, sym, ap, subst, ◌∙◌, inl, inr, eq-eqb, if◌then◌else◌}
use Rattle.std.proofs.lemmas.Bool.{eqb-true}
use Rattle.std.specs.List.{list_all}
use Rattle.ospf_lsa.specs.declared.link.Link.{Link}
use Rattle.ospf_change.specs.Edit.Change.{cost_of, gets_cost, keeps_cost, priced_link, with_cost}
use Rattle.ospf_change.specs.declared.edit.change.Change.{Change}

-- a link at a cost that it has
same_cost : (n : ℕ) (l : Link) → l.metric ≡ n → with_cost n l ≡ l
same_cost n l is = λ i. record { id = l.id; link_data = l.link_data; kind = l.kind; metric = sym is i }

keeps_by : (b : Bool) (n : ℕ) (l : Link) → (not b || (l.metric == n)) ≡ true → (if b then with_cost n l else l) ≡ l
keeps_by true n l sure = same_cost n l (eqb-true l.metric n sure)
keeps_by false n l sure = refl

kept_by : (b : Bool) (n : ℕ) (l : Link) → (if b then with_cost n l else l) ≡ l → (not b || (l.metric == n)) ≡ true
kept_by true n l same = eq-eqb l.metric n (sym (ap (λ (x : Link). x.metric) same))
kept_by false n l same = refl

-- a link keeps its cost exactly where it is as it was
link_keeps : (c : Change) (links : List Link) (l : Link) → keeps_cost c links l ≡ true → priced_link c links l ≡ l
link_keeps c links l sure = keeps_by (gets_cost c links l) (cost_of c) l sure

link_kept : (c : Change) (links : List Link) (l : Link) → priced_link c links l ≡ l → keeps_cost c links l ≡ true
link_kept c links l same = kept_by (gets_cost c links l) (cost_of c) l same

and_both : (a b : Bool) → (a && b) ≡ true → (a ≡ true) × (b ≡ true)
and_both true b h = (refl, h)
and_both false b h = absurd (let no : false ≡ true = h in cc)

-- all of some links do
pub all_keep : (c : Change) (links xs : List Link) → list_all (keeps_cost c links) xs ≡ true → map (priced_link c links) xs ≡ xs
all_keep c links [] sure = refl
all_keep c links (l ∷ xs) sure =
    let both = and_both (keeps_cost c links l) (list_all (keeps_cost c links) xs) sure in
    λ i. link_keeps c links l both.0 i ∷ all_keep c links xs both.1 i

pub all_kept : (c : Change) (links xs : List Link) → map (priced_link c links) xs ≡ xs → list_all (keeps_cost c links) xs ≡ true
all_kept c links [] same = refl
all_kept c links (l ∷ xs) same =
    let first : priced_link c links l ≡ l = cc in
    let rest : map (priced_link c links) xs ≡ xs = cc in
    rw (link_kept c links l first) (all_kept c links xs rest)
