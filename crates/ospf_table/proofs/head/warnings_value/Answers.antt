use Rattle.std.proofs.Common.{◌∙◌, ℕ, Bor, List, ap, map, sym}
use Rattle.std.proofs.lemmas.Simd.{map-map}
use Rattle.serde_json.specs.Data.{Data, array, string}
use Rattle.serde_json.specs.View.{items_of}
use Rattle.ospf_table.specs.Head.{texts_data}
use Rattle.ospf_table.proofs.head.warnings_value.Goals as goal

pub returns : goal.returns
returns c =
    c.in_ok-value.ensures ∙ ap (λ (ts : List (Bor (List ℕ))). array (items_of (map (λ (t : Bor (List ℕ)). string t.now) ts))) c.deref.ensures.value
    ∙ ap (λ (ds : List Data). array (items_of ds)) (sym (map-map string (λ (t : Bor (List ℕ)). t.now) c.in_ok-texts.texts.items)) ∙ ap texts_data c.in_ok-texts.ensures
