-- Addresses that mean something of their own (RFC 2328, sections 9.1 and 9.4 and appendix A.1).
use Rattle.ospf_base.specs.declared.ids.Addr.{Addr}

-- 0.0.0.0: no router, and no address that is known
abbrev pub nowhere : Addr
nowhere = record { 0 = 0 }

-- 224.0.0.5: all OSPF routers of a link
abbrev pub all_spf_routers : Addr
all_spf_routers = record { 0 = 0xe0000005 }

-- 224.0.0.6: the Designated Router and the Backup of a link
abbrev pub all_d_routers : Addr
all_d_routers = record { 0 = 0xe0000006 }
