-- The octets of an IPv4 address.
use Rattle.std.specs.Prelude.{ℕ, List}
use Rattle.std.specs.Net.Addr.{ipv4_octets}
use Rattle.std.specs.Net.Socket.{v4_ip}
use Rattle.std.specs.declared.net.socket_addr.SocketAddrV4.{SocketAddrV4}

-- the octets of an IPv4 address, most significant first
abbrev pub octets_of : SocketAddrV4 → List ℕ
octets_of address = ipv4_octets (v4_ip address)
