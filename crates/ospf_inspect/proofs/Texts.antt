-- LSAs that are put into words.
use Rattle.std.proofs.Common.{◌≡◌, ◌∙◌, ◌++◌, ℕ, List, ap, subst}
use Rattle.ospf_base.specs.declared.ids.Instance.{Instance}
use Rattle.ospf_base.specs.declared.ids.LsaKey.{LsaKey}
use Rattle.ospf_base.specs.declared.ids.RouterId.{RouterId}
use Rattle.ospf_graph.specs.EdgeLists.Given.{StandsFor}
use Rattle.ospf_graph.specs.Advertisements.{Advertisement}
use Rattle.ospf_lsa.specs.Header.{header_of}
use Rattle.ospf_lsa.specs.Lsa.{attached_of, instance_of, key_of, links_of}
use Rattle.ospf_lsa.specs.declared.link.Link.{Link}
use Rattle.ospf_inspect.specs.Lines.{AreLines}
use Rattle.ospf_inspect.specs.declared.lsas.NetworkName.{NetworkName}
use Rattle.ospf_inspect.specs.Lsas.{IsMarkUnless, SaysOfAttached, SaysOfLink, SaysOfNetwork, SaysOfRouter, flags_of, network_name_of, network_line, router_line, unused}

pub router_said : (adverts : List Advertisement) (lsa : List ℕ) (key : LsaKey) (age : ℕ) (instance : Instance) (flags : ℕ) (line lines text : List ℕ) (links : List Link)
    → key ≡ key_of lsa → age ≡ (header_of lsa).age → instance ≡ instance_of lsa → flags ≡ flags_of lsa → links ≡ links_of lsa
    → line ≡ router_line key.router age instance flags
    → AreLines (SaysOfLink adverts key.router) links lines → text ≡ line ++ lines → SaysOfRouter adverts lsa text
router_said adverts lsa key age instance flags line lines text links key_is age_is instance_is flags_are links_are line_is said text_is = (
  lines,
  subst (λ (k : LsaKey). AreLines (SaysOfLink adverts k.router) (links_of lsa) lines) key_is (subst (λ (xs : List Link). AreLines (SaysOfLink adverts key.router) xs lines) links_are said),
  text_is ∙ ap (λ l. l ++ lines)
      (line_is ∙ ap (λ (k : LsaKey). router_line k.router age instance flags) key_is ∙ ap (λ (a : ℕ). router_line (key_of lsa).router a instance flags) age_is
      ∙ ap (λ (i : Instance). router_line (key_of lsa).router (header_of lsa).age i flags) instance_is
      ∙ ap (λ (b : ℕ). router_line (key_of lsa).router (header_of lsa).age (instance_of lsa) b) flags_are),
)

pub network_said : (adverts : List Advertisement) (lsa : List ℕ) (key : LsaKey) (name : NetworkName) (age : ℕ) (instance : Instance) (mark line lines text : List ℕ)
    (attached : List RouterId) → key ≡ key_of lsa → name ≡ network_name_of lsa → age ≡ (header_of lsa).age → instance ≡ instance_of lsa → attached ≡ attached_of lsa
    → IsMarkUnless (StandsFor adverts key.id key.router) unused mark → line ≡ network_line name age instance mark
    → AreLines (SaysOfAttached adverts key.id) attached lines → text ≡ line ++ lines → SaysOfNetwork adverts lsa text
network_said adverts lsa key name age instance mark line lines text attached key_is name_is age_is instance_is attached_are marked line_is said text_is = (
  mark,
  lines,
  subst (λ (k : LsaKey). IsMarkUnless (StandsFor adverts k.id k.router) unused mark) key_is marked,
  subst (λ (k : LsaKey). AreLines (SaysOfAttached adverts k.id) (attached_of lsa) lines) key_is (subst (λ (xs : List RouterId). AreLines (SaysOfAttached adverts key.id) xs lines) attached_are said),
  text_is ∙ ap (λ l. l ++ lines)
      (line_is ∙ ap (λ (n : NetworkName). network_line n age instance mark) name_is ∙ ap (λ (a : ℕ). network_line (network_name_of lsa) a instance mark) age_is
      ∙ ap (λ (i : Instance). network_line (network_name_of lsa) (header_of lsa).age i mark) instance_is),
)
