-- Why no failures are computed for the lines of an input.
use Rattle.std.specs.Prelude.{◌≡◌, ℕ, List, [], ◌∷◌, ◌++◌, IfSome, Option, codes, string_bytes}
use Rattle.ospf_base.specs.Text.{number_text}
use Rattle.ospf_base.specs.declared.ids.RouterId.{RouterId}
use Rattle.ospf_lsa.specs.Lsa.{key_of}
use Rattle.ospf_graph.specs.EdgeLists.Listed.{advertisement_of, advertisements_of}
use Rattle.ospf_files.specs.Streams.{IsOfInput}
use Rattle.ospf_table.specs.Line.{Reads, Refuses}
use Rattle.ospf_table.specs.Refusal.{refusal_line}
use Rattle.ospf_table.specs.declared.table.EntryFault.{EntryFault}
use Rattle.ospf_whatif.specs.Failure.{HasLarge, IsLarge}
use Rattle.ospf_harm.specs.declared.input.Unread.{Unread}
use Rattle.ospf_harm.specs.declared.input.Unread.TheVariants as fault

-- the first router-LSA of a listing with more links than one of the largest size that
-- is made is that of this router
pub record IsFirstLarge (listing : List (List ℕ)) (router : RouterId) : Type 0 where
  pub before : List (List ℕ)
  pub lsa : List ℕ
  pub after : List (List ℕ)
  pub listing_is : listing ≡ before ++ lsa ∷ after
  pub none_before : HasLarge (advertisements_of before) → ⊥
  pub large : IsLarge (advertisement_of lsa)
  pub router_is : router ≡ (key_of lsa).router

-- the line about such a router
abbrev pub large_line : RouterId → List ℕ
large_line router = number_text router.0 ++ codes ": more than 1361 links\n"

-- the text that refuses the input: about the first refused line or, where router-LSAs are rebuilt,
-- about the first router with too many links
pub data IsAreaRefusal (Rebuilds : Type 0) (input text : List ℕ) : Type 0 where
  of_line : (number : ℕ) (fault : EntryFault) → Refuses input [] number fault
      → text ≡ refusal_line number fault → IsAreaRefusal Rebuilds input text
  of_router : (listing : List (List ℕ)) (router : RouterId) → Reads input [] listing
      → Rebuilds → IsFirstLarge listing router → text ≡ large_line router
      → IsAreaRefusal Rebuilds input text

-- why there are no LSAs: that text; or memory ran out, or the input was not read
abbrev pub IsAreaUnread : Type 0 → Option (List ℕ) → Unread → Type 0
IsAreaUnread Rebuilds input (fault.Refused text) =
    IfSome input (λ bytes. IsAreaRefusal Rebuilds bytes (string_bytes text))
IsAreaUnread Rebuilds input (fault.Failure f) = IsOfInput f
