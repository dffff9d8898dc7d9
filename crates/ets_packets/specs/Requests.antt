-- The request in the body of a packet: a kind of one byte, a process number of four, and the rest.
use Rattle.std.specs.Prelude.{ℕ, List, length, drop, slice_index, Bool, ◌==◌, nat_lt, if◌then◌else◌}
use Rattle.ets_packets.specs.Packets.{number_at}
use Rattle.ets_packets.specs.declared.request.Request.{Request}
use Rattle.ets_packets.specs.declared.request.Request.TheVariants.{Spawn, Exit, Call, NotARequest}

-- the request of a kind and a process number; kinds 0 and 1 have no rest, so that the body has five bytes
abbrev pub request_of : ℕ → ℕ → Bool → Request
request_of kind pid is_short =
    if kind == 2 then Call pid
    else if is_short then (if kind == 0 then Spawn pid else if kind == 1 then Exit pid else NotARequest)
    else NotARequest

abbrev pub parse_request : List ℕ → Request
parse_request body =
    if nat_lt (length body) 5 then NotARequest
    else request_of (slice_index body 0) (number_at body 1) (length body == 5)

-- the bytes of a call: the rest after the process number
abbrev pub call_bytes : List ℕ → List ℕ
call_bytes body = drop 5 body
