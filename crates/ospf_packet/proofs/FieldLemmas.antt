-- Fields and entries that were written are read.
use Rattle.std.proofs.Common.{◌≡◌, ℕ, ◌^◌, ◌<◌, List, ◌++◌, min, refl, ap, ◌∙◌, arith}
use Rattle.std.specs.Prelude.{ℤ, pos, negsuc}
use Rattle.std.specs.Int.{w32, cast_signed, cast_unsigned}
use mir.Val.{SFits, of_z}
use Rattle.std.proofs.lemmas.Int.{to_z-of_z}
use Rattle.ospf_base.specs.Bytes.{number_at, signed_at}
use Rattle.ospf_base.specs.declared.ids.RouterId.{RouterId}
use Rattle.ospf_lsa.specs.Header.{header_of}
use Rattle.ospf_packet.specs.Fields.{hello_at, hello_bytes, HelloFits, description_at, description_bytes, DescriptionFits}
use Rattle.ospf_packet.specs.Spelling.{HeaderEntry, header_entry_bytes, HeaderEntryFits}
use Rattle.ospf_lsa.specs.Attached.{router_bytes, RouterFits}
use Rattle.ospf_packet.proofs.Routers.{router_at}
use Rattle.ospf_packet.specs.Requests.{request_entry_at, request_entry_bytes, RequestEntryFits}
use Rattle.ospf_packet.specs.declared.body.Hello.{Hello}
use Rattle.ospf_packet.specs.declared.body.Description.{Description}
use Rattle.ospf_packet.specs.declared.entry.RequestEntry.{RequestEntry}
use Rattle.ospf_lsa.proofs.HeaderLemmas.{made, made_same}

pub hello_back : (h : Hello) (rest : List ℕ) → HelloFits h → hello_at (hello_bytes h ++ rest) ≡ h
hello_back h rest fits =
    let bytes = hello_bytes h ++ rest in
    let f1 = fits.mask in let f2 = fits.hello_interval in let f3 = fits.dead_interval in let f4 = fits.designated in let f5 = fits.backup in
    let mask : number_at 0 4 bytes ≡ h.mask = omega arith in
    let interval : number_at 4 2 bytes ≡ h.hello_interval = omega arith in
    let dead : number_at 8 4 bytes ≡ h.dead_interval = omega arith in
    let designated : number_at 12 4 bytes ≡ h.designated.0 = omega arith in
    let backup : number_at 16 4 bytes ≡ h.backup.0 = omega arith in
    rw (mask, interval, dead, designated, backup) refl

pub description_back : (d : Description) (rest : List ℕ) → DescriptionFits d → description_at (description_bytes d ++ rest) ≡ d
description_back d rest fits =
    let bytes = description_bytes d ++ rest in
    let f1 = fits.mtu in let f2 = fits.number in
    let mtu : number_at 0 2 bytes ≡ d.mtu = omega arith in
    let number : number_at 4 4 bytes ≡ d.number = omega arith in
    rw (mtu, number) refl

pub router_back : (r : RouterId) (rest : List ℕ) → RouterFits r → router_at (router_bytes r ++ rest) ≡ r
router_back r rest fits =
    let number : number_at 0 4 (router_bytes r ++ rest) ≡ r.0 = omega arith in
    rw number refl

pub entry_back : (e : RequestEntry) (rest : List ℕ) → RequestEntryFits e → request_entry_at (request_entry_bytes e ++ rest) ≡ e
entry_back e rest fits =
    let bytes = request_entry_bytes e ++ rest in
    let f1 = fits.kind in let f2 = fits.id in let f3 = fits.router in
    let kind : number_at 0 4 bytes ≡ e.kind = omega arith in
    let id : number_at 4 4 bytes ≡ e.id = omega arith in
    let router : number_at 8 4 bytes ≡ e.router.0 = omega arith in
    rw (kind, id, router) refl

-- ---- LSA headers

-- the bits of a signed number
of_z-below : (z : ℤ) → SFits w32 z → of_z w32 z < 2 ^ 32
of_z-below (pos n) f = omega (arith, f.sfits)
of_z-below (negsuc n) f = omega arith

pub header_back : (e : HeaderEntry) (rest : List ℕ) → HeaderEntryFits e → header_of (header_entry_bytes e ++ rest) ≡ e.header
unfolding made
header_back e rest fits =
    let h = e.header in
    let f = fits.rest in
    let a = fits.age_is in
    let af = fits.age_fits in
    let bytes = header_entry_bytes e ++ rest in
    let bits : cast_unsigned w32 h.number < 2 ^ 32 = of_z-below h.number f.number in
    let number : signed_at 12 bytes ≡ h.number = ap (cast_signed w32) (omega arith) ∙ to_z-of_z w32 h.number f.number in
    made_same (min (number_at 0 2 bytes) 3600) h.age h.options h.kind (number_at 4 4 bytes) h.id (number_at 8 4 bytes) h.router.0 (signed_at 12 bytes) h.number
    (number_at 16 2 bytes) h.sum (number_at 18 2 bytes) h.length (omega arith) (omega arith) (omega arith) number (omega arith) (omega arith)
