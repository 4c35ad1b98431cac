-- A request in one line, and its head without the fields that frame a body.
use Rattle.std.specs.Prelude.{ℕ, List, [], ◌++◌, codes, option_map, unwrap_or}
use Rattle.http_header.specs.HeaderMap.{get, remove}
use Rattle.relay_tasks.specs.Head.{RequestHead}

-- the head without the fields that frame a body
abbrev pub without_body_fields : RequestHead → RequestHead
without_body_fields head =
    record head {
      fields = remove (remove head.fields (codes "content-length")) (codes "transfer-encoding");
    }

-- the value of the first Host field, or nothing
abbrev pub first_host : RequestHead → List ℕ
first_host head = unwrap_or (option_map (λ value. value.bytes) (get head.fields (codes "host"))) []

-- the method, the target and the first Host
abbrev pub request_summary : RequestHead → List ℕ
request_summary head =
    head.method ++ (codes " " ++ (head.target ++ (codes ", Host: " ++ first_host head)))
