use Rattle.std.proofs.Common.{◌≡◌, ◌∷◌, [], ◌++◌, ◌+◌, List, ℕ, length, map, drop, get_or, rules}
use Rattle.ets_term.specs.Encoding.{concat}
use Rattle.external_term.specs.Encoding.{big4, encode, tuple_header, tuple_bytes, long_list_bytes}
use Rattle.external_term.proofs.Encoded.{joined_more, encode-Pid, encode-Tid}
use Rattle.external_term.proofs.SentPieces.{form-is, appends-as, prefix-as, prefix-first, prefix-then, sends-fault, sends-first, sends-then, sends-as, tuple-pieces, list-pieces, sent-more, sent-fails}
use Rattle.external_term.proofs.sending.+send.Goals as goal

pub send_items-returns-in_err-send_term-clause-sent : goal.send_items-returns-in_err-send_term-clause-sent
send_items-returns-in_err-send_term-clause-sent g t c =
    let l = c.loop-item in
    let ts = c.args.items.now in
    let x = c.item-item.result in
    let same : get_or ts l.item-index x ≡ x = search rules in
    sent-fails (g.W.Write.contents c.args.out.now) (g.W.Write.contents l.out) (g.W.Write.contents c.send_term.new.out)
    (concat (map encode (drop l.item-index ts))) (encode x) (concat (map encode (drop (l.item-index + 1) ts))) (concat (map encode ts))
    c.from_residual.result c.from_residual.ensures.0 (joined_more ts l.item-index x c.loop-item-test.true same) l.invariant.sent c.in_err-send_term.ensures.sent

pub send_items-loop-item-preserved : goal.send_items-loop-item-preserved
send_items-loop-item-preserved g t c =
    let l = c.loop-item in
    let ts = c.args.items.now in
    let x = c.item-item.result in
    let same : get_or ts l.item-index x ≡ x = search rules in record {
      room = search rules;
      sent = sent-more (g.W.Write.contents c.args.out.now) (g.W.Write.contents l.out) (g.W.Write.contents c.send_term.new.out)
          (concat (map encode (drop l.item-index ts))) (encode x) (concat (map encode (drop (l.item-index + 1) ts))) (concat (map encode ts))
          (joined_more ts l.item-index x c.loop-item-test.true same) l.invariant.sent c.in_ok-send_term.ensures.sent;
    }

pub send_long_list-returns-in_err-send_bytes-clause-sent : goal.send_long_list-returns-in_err-send_bytes-clause-sent
send_long_list-returns-in_err-send_bytes-clause-sent g t c =
    let ts = c.args.items.now in
    let old = g.W.Write.contents c.args.out.now in
    let now = g.W.Write.contents c.send_bytes.new.out in
    let header : List ℕ = 108 ∷ big4 (length ts) in
    let back : List ℕ = concat (map encode ts) ++ 106 ∷ [] in
    let form : c.as_slice.result.now ≡ header = form-is c.clear.new.self.items c.put_tag_and_u32.new.out.items c.as_slice.result.now header c.clear.ensures.items c.put_tag_and_u32.ensures.items c.as_slice.ensures.value in
    sends-as old now (header ++ back) (long_list_bytes (map encode ts)) c.from_residual.result (list-pieces ts)
    (sends-first old now header back c.from_residual.result c.from_residual.ensures.0 (prefix-as old now c.as_slice.result.now header form c.in_err-send_bytes.ensures))

pub send_long_list-returns-in_err-send_items-clause-sent : goal.send_long_list-returns-in_err-send_items-clause-sent
send_long_list-returns-in_err-send_items-clause-sent g t c =
    let ts = c.args.items.now in
    let old = g.W.Write.contents c.args.out.now in
    let now = g.W.Write.contents c.send_bytes.new.out in
    let new = g.W.Write.contents c.send_items.new.out in
    let r = c.from_residual-in_err-send_items.result in
    let header : List ℕ = 108 ∷ big4 (length ts) in
    let encoded_terms = concat (map encode ts) in
    let back : List ℕ = encoded_terms ++ 106 ∷ [] in
    let form : c.as_slice.result.now ≡ header = form-is c.clear.new.self.items c.put_tag_and_u32.new.out.items c.as_slice.result.now header c.clear.ensures.items c.put_tag_and_u32.ensures.items c.as_slice.ensures.value in
    sends-as old new (header ++ back) (long_list_bytes (map encode ts)) r (list-pieces ts)
    (sends-fault old new (header ++ back) r c.from_residual-in_err-send_items.ensures.0
    (prefix-then old now new header back (appends-as old now c.as_slice.result.now header form c.in_ok-send_bytes.ensures) (prefix-first now new encoded_terms (106 ∷ []) c.in_err-send_items.ensures.sent)))

pub send_long_list-returns-clause-sent : goal.send_long_list-returns-clause-sent
send_long_list-returns-clause-sent g t c =
    let ts = c.args.items.now in
    let old = g.W.Write.contents c.args.out.now in
    let now = g.W.Write.contents c.send_bytes.new.out in
    let later = g.W.Write.contents c.send_items.new.out in
    let new = g.W.Write.contents c.send_bytes-2.new.out in
    let r = c.send_bytes-2.result in
    let header : List ℕ = 108 ∷ big4 (length ts) in
    let encoded_terms = concat (map encode ts) in
    let back : List ℕ = encoded_terms ++ 106 ∷ [] in
    let form : c.as_slice.result.now ≡ header = form-is c.clear.new.self.items c.put_tag_and_u32.new.out.items c.as_slice.result.now header c.clear.ensures.items c.put_tag_and_u32.ensures.items c.as_slice.ensures.value in
    sends-as old new (header ++ back) (long_list_bytes (map encode ts)) r (list-pieces ts)
    (sends-then old now new header back r (appends-as old now c.as_slice.result.now header form c.in_ok-send_bytes.ensures)
    (sends-then now later new encoded_terms (106 ∷ []) r c.in_ok-send_items.ensures.sent c.send_bytes-2.ensures))

pub send_term-returns-in-Pid-clause-sent : goal.send_term-returns-in-Pid-clause-sent
send_term-returns-in-Pid-clause-sent g t c = rw (c.in-Pid.is, encode-Pid c.in-Pid.n) c.send_pid.ensures.sent

pub send_term-returns-in-Tid-clause-sent : goal.send_term-returns-in-Tid-clause-sent
send_term-returns-in-Tid-clause-sent g t c = rw (c.in-Tid.is, encode-Tid c.in-Tid.n) c.send_reference.ensures.sent

pub send_tuple-returns-in_err-send_bytes-clause-sent : goal.send_tuple-returns-in_err-send_bytes-clause-sent
send_tuple-returns-in_err-send_bytes-clause-sent g t c =
    let ts = c.args.items.now in
    let old = g.W.Write.contents c.args.out.now in
    let now = g.W.Write.contents c.send_bytes.new.out in
    let header = tuple_header (length ts) in
    let encoded_terms = concat (map encode ts) in
    let form : c.as_slice.result.now ≡ header =
    form-is c.clear.new.self.items c.append_tuple_header.new.out.items c.as_slice.result.now header c.clear.ensures.items c.append_tuple_header.ensures.items c.as_slice.ensures.value in
    sends-as old now (header ++ encoded_terms) (tuple_bytes (map encode ts)) c.from_residual.result (tuple-pieces ts)
    (sends-first old now header encoded_terms c.from_residual.result c.from_residual.ensures.0 (prefix-as old now c.as_slice.result.now header form c.in_err-send_bytes.ensures))

pub send_tuple-returns-clause-sent : goal.send_tuple-returns-clause-sent
send_tuple-returns-clause-sent g t c =
    let ts = c.args.items.now in
    let old = g.W.Write.contents c.args.out.now in
    let now = g.W.Write.contents c.send_bytes.new.out in
    let new = g.W.Write.contents c.send_items.new.out in
    let header = tuple_header (length ts) in
    let encoded_terms = concat (map encode ts) in
    let form : c.as_slice.result.now ≡ header =
    form-is c.clear.new.self.items c.append_tuple_header.new.out.items c.as_slice.result.now header c.clear.ensures.items c.append_tuple_header.ensures.items c.as_slice.ensures.value in
    sends-as old new (header ++ encoded_terms) (tuple_bytes (map encode ts)) c.send_items.result (tuple-pieces ts)
    (sends-then old now new header encoded_terms c.send_items.result (appends-as old now c.as_slice.result.now header form c.in_ok-send_bytes.ensures) c.send_items.ensures.sent)
