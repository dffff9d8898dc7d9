-- Runs one after another, and their packets.
use Rattle.std.proofs.Common.{◌≡◌, ℕ, ◌≤◌, ◌<◌, ◌^◌, length, List, [], ◌∷◌, ◌++◌, refl, sym, ap, ◌∙◌, subst, append-nil, append_assoc}
use Rattle.node_text.specs.StoreState.{StoreState}
use Rattle.ets_packets.specs.Packets.{packet}
use Rattle.ets_packets.specs.Replies.{PacketReply, reply_body, AnswersBody}
use Rattle.ets_packets.specs.Exchanges.{Exchange, Run, requests, replies}

pub run-join : (most : ℕ) (es fs : List Exchange) (s m t : StoreState) → Run most s es m → Run most m fs t → Run most s (es ++ fs) t
run-join most [] fs s m t p q = subst (λ (x : StoreState). Run most x fs t) p q
run-join most (e ∷ es) fs s m t p q = (p.0, p.1, run-join most es fs p.0 m t p.2 q)

pub requests-join : (es fs : List Exchange) → requests (es ++ fs) ≡ requests es ++ requests fs
requests-join [] fs = refl
requests-join (e ∷ es) fs = ap (λ k. packet e.body ++ k) (requests-join es fs) ∙ sym (append_assoc (packet e.body) (requests es) (requests fs))

pub replies-join : (es fs : List Exchange) → replies (es ++ fs) ≡ replies es ++ replies fs
replies-join [] fs = refl
replies-join (e ∷ es) fs =
    ap (λ k. packet (reply_body e.reply) ++ k) (replies-join es fs) ∙ sym (append_assoc (packet (reply_body e.reply)) (replies es) (replies fs))

-- the run of one exchange
abbrev pub one : List ℕ → PacketReply → List Exchange
one body reply = record { body = body; reply = reply } ∷ []

pub run-one : (most : ℕ) (body : List ℕ) (reply : PacketReply) (s t : StoreState) → AnswersBody most body s reply t → length body < 2 ^ 32 → length (reply_body reply) < 2 ^ 32 → Run most s (one body reply) t
run-one most body reply s t p few fits = (t, record { answers = p; few = few; fits = fits }, refl)

pub requests-one : (es : List Exchange) (body : List ℕ) (reply : PacketReply) → requests (es ++ one body reply) ≡ requests es ++ packet body
requests-one es body reply = requests-join es (one body reply) ∙ ap (λ k. requests es ++ k) (append-nil (packet body))

pub replies-one : (es : List Exchange) (body : List ℕ) (reply : PacketReply) → replies (es ++ one body reply) ≡ replies es ++ packet (reply_body reply)
replies-one es body reply = replies-join es (one body reply) ∙ ap (λ k. replies es ++ k) (append-nil (packet (reply_body reply)))
