-- Whole packets that are answered one after another, and bodies that are too long, which are skipped.
use Rattle.std.proofs.Common.{◌≡◌, ℕ, ◌+◌, ◌≤◌, ◌<◌, ◌^◌, List, [], ◌∷◌, ◌++◌, length, take, drop, refl, sym, ap, ◌∙◌, subst, append-nil, append_assoc, arith, Option, inl, inr, codes}
use Rattle.std.proofs.lemmas.List.{take-append-drop, length-append, length-take-le, length-drop, nil_from_length}
use Rattle.std.proofs.lemmas.Slice.{between_is}
use Rattle.std.specs.List.{slice_range}
use Rattle.node_text.specs.StoreState.{StoreState}
use Rattle.ets_packets.specs.Packets.{IsUnfinished, big4, packet}
use Rattle.ets_packets.specs.Replies.{PacketReply, packet_reply, reply_body}
use Rattle.ets_packets.specs.Exchanges.{Exchange, Run, requests, replies}
use Rattle.ets_packets.specs.inside.Answering.{AnswersAllPackets, AnswersPacket, AnswersPackets, BreaksPacket, BreaksPackets, IsSkipped}
use Rattle.ets_packets.specs.inside.Buffer.{BeginsTooLong, BeginsWith}
use Rattle.ets_packets.specs.Output.{Sends, Breaks}
use Rattle.ets_packets.specs.Traffic.{Flow}
use Rattle.ets_packets.proofs.Exchanges.{one, replies-join, requests-join, run-join, run-one}
use Rattle.ets_packets.proofs.KnownBytes.{between, sends-more, sends-none, breaks-more}

-- nothing was skipped
pub no-part : (most : ℕ) (part : List ℕ) (left : ℕ) → IsSkipped most part left → left ≡ 0 → part ≡ []
no-part most part left (inl none) zero = none.1
no-part most part left (inr long) zero =
    let more = long.4 in
    absurd (omega (arith, more, zero))

-- something was
pub some-part : (most : ℕ) (part : List ℕ) (left : ℕ) → IsSkipped most part left → 0 < left → 0 < length part
some-part most part left (inl none) more =
    let zero = none.0 in
    absurd (omega (arith, more, zero))
some-part most part left (inr long) more = subst (λ (k : List ℕ). 0 < length k) (sym long.1) (omega arith)

-- a part of a body that is too long, with no bytes after it
pub skipped-unfinished : (most : ℕ) (part : List ℕ) (left : ℕ) → IsSkipped most part left → 0 < left → IsUnfinished part
skipped-unfinished most part left (inl none) more =
    let zero = none.0 in
    absurd (omega (arith, more, zero))
skipped-unfinished most part left (inr long) more = inr (length long.0 + left, long.0, long.1, omega (arith, more), long.3)

-- the first packet of the bytes
packet-front : (most : ℕ) (bytes : List ℕ) (len : ℕ) → BeginsWith most bytes len → packet (slice_range bytes 4 (len + 4)) ++ drop (len + 4) bytes ≡ bytes
packet-front most bytes len f = ap (λ k. k ++ drop (len + 4) bytes) (sym f.is_packet) ∙ take-append-drop (len + 4) bytes

body-length : (most : ℕ) (bytes : List ℕ) (len : ℕ) → BeginsWith most bytes len → length (slice_range bytes 4 (len + 4)) ≡ len
body-length most bytes len f =
    let within = f.within in
    let is = ap length (between_is bytes 4 (len + 4)) in
    omega (arith, within, is, length-drop 4 (take (len + 4) bytes), length-take-le (len + 4) bytes within)

one-parts : (most : ℕ) (bytes : List ℕ) (len : ℕ) (reply : PacketReply) → BeginsWith most bytes len
    → bytes ≡ requests (one (slice_range bytes 4 (len + 4)) reply) ++ drop (len + 4) bytes
one-parts most bytes len reply f =
    sym (packet-front most bytes len f) ∙ ap (λ k. k ++ drop (len + 4) bytes) (sym (append-nil (packet (slice_range bytes 4 (len + 4)))))

one-run : (most : ℕ) (bytes : List ℕ) (s1 s2 : StoreState) (len : ℕ) (w1 w2 : Option (List ℕ)) (p1 p2 : List ℕ) → BeginsWith most bytes len
    → (a : AnswersPacket (between w1 w2) p1 p2 (slice_range bytes 4 (len + 4)) s1 s2) → Run most s1 (one (slice_range bytes 4 (len + 4)) a.reply) s2
one-run most bytes s1 s2 len w1 w2 p1 p2 f a =
    let allowed = f.allowed in
    let few = f.few in
    let is = body-length most bytes len f in
    run-one most (slice_range bytes 4 (len + 4)) a.reply s1 s2 (inl (omega (arith, allowed, is), a.answers)) (omega (arith, few, is)) a.fits

-- a packet is answered
pub one-packet : (most : ℕ) (w1 w2 : Option (List ℕ)) (p1 p2 bytes : List ℕ) (left : ℕ) (s1 s2 : StoreState) (len : ℕ) → left ≡ 0 → BeginsWith most bytes len
    → AnswersPacket (between w1 w2) p1 p2 (slice_range bytes 4 (len + 4)) s1 s2 → AnswersPackets most (between w1 w2) p1 p2 bytes (drop (len + 4) bytes) left s1 s2
one-packet most w1 w2 p1 p2 bytes left s1 s2 len none f a =
    let body = slice_range bytes 4 (len + 4) in
    record {
      exchanges = one body a.reply;
      part = [];
      run = one-run most bytes s1 s2 len w1 w2 p1 p2 f a;
      parts = one-parts most bytes len a.reply f;
      adds = subst (λ (k : List ℕ). Sends (between w1 w2) (p1 ++ k) p2) (sym (append-nil (packet (reply_body a.reply)))) a.adds;
      skipped = inl (none, refl);
    }

-- a packet is answered, and the writer fails
pub one-broken : (most : ℕ) (w1 w2 : Option (List ℕ)) (p1 bytes : List ℕ) (s1 s2 : StoreState) (len : ℕ) → BeginsWith most bytes len
    → BreaksPacket (between w1 w2) p1 (slice_range bytes 4 (len + 4)) s1 s2 → BreaksPackets most (between w1 w2) p1 bytes s1
one-broken most w1 w2 p1 bytes s1 s2 len f a =
    let body = slice_range bytes 4 (len + 4) in
    let allowed = f.allowed in
    let few = f.few in
    let is = body-length most bytes len f in
    record {
      exchanges = one body a.reply;
      end = s2;
      rest = drop (len + 4) bytes;
      run = run-one most body a.reply s1 s2 (inl (omega (arith, allowed, is), a.answers)) (omega (arith, few, is)) a.fits;
      parts = one-parts most bytes len a.reply f;
      breaks = subst (λ (k : List ℕ). Breaks (between w1 w2) (p1 ++ k)) (sym (append-nil (packet (reply_body a.reply)))) a.breaks;
    }

-- packets are answered after others
joined-parts : (most : ℕ) (w1 w2 : Option (List ℕ)) (p1 p2 bytes rest end : List ℕ) (was : ℕ) (s1 s2 : StoreState) (fs : List Exchange) (a : AnswersPackets most (between w1 w2) p1 p2 bytes rest was s1 s2) → was ≡ 0 → rest ≡ requests fs ++ end
    → bytes ≡ requests (a.exchanges ++ fs) ++ end
joined-parts most w1 w2 p1 p2 bytes rest end was s1 s2 fs a none is =
    a.parts
    ∙ ap (λ k. requests a.exchanges ++ (k ++ rest)) (no-part most a.part was a.skipped none)
    ∙ ap (λ k. requests a.exchanges ++ k) is
    ∙ sym (append_assoc (requests a.exchanges) (requests fs) end)
    ∙ ap (λ k. k ++ end) (sym (requests-join a.exchanges fs))

joined-replies : (before : List ℕ) (es fs : List Exchange) → (before ++ replies es) ++ replies fs ≡ before ++ replies (es ++ fs)
joined-replies before es fs = append_assoc before (replies es) (replies fs) ∙ ap (λ k. before ++ k) (sym (replies-join es fs))

pub packets-joined : (most : ℕ) (old w1 w2 : Option (List ℕ)) (before p1 p2 bytes rest end : List ℕ) (was left : ℕ) (start s1 s2 : StoreState)
    → AnswersPackets most (between old w1) before p1 bytes rest was start s1 → was ≡ 0 → AnswersPackets most (between w1 w2) p1 p2 rest end left s1 s2
    → AnswersPackets most (between old w2) before p2 bytes end left start s2
packets-joined most old w1 w2 before p1 p2 bytes rest end was left start s1 s2 a none b = record {
  exchanges = a.exchanges ++ b.exchanges;
  part = b.part;
  run = run-join most a.exchanges b.exchanges start s1 s2 a.run b.run;
  parts = joined-parts most old w1 before p1 bytes rest (b.part ++ end) was start s1 b.exchanges a none b.parts;
  adds = subst (λ (k : List ℕ). Sends (between old w2) k p2) (joined-replies before a.exchanges b.exchanges)
      (sends-more old w1 w2 (before ++ replies a.exchanges) p1 (replies b.exchanges) p2 a.adds b.adds);
  skipped = b.skipped;
}

pub packets-broken : (most : ℕ) (old w1 w2 : Option (List ℕ)) (before p1 bytes rest : List ℕ) (was : ℕ) (start s1 : StoreState)
    → AnswersPackets most (between old w1) before p1 bytes rest was start s1 → was ≡ 0 → BreaksPackets most (between w1 w2) p1 rest s1
    → BreaksPackets most (between old w2) before bytes start
packets-broken most old w1 w2 before p1 bytes rest was start s1 a none b = record {
  exchanges = a.exchanges ++ b.exchanges;
  end = b.end;
  rest = b.rest;
  run = run-join most a.exchanges b.exchanges start s1 b.end a.run b.run;
  parts = joined-parts most old w1 before p1 bytes rest b.rest was start s1 b.exchanges a none b.parts;
  breaks = subst (λ (k : List ℕ). Breaks (between old w2) k) (joined-replies before a.exchanges b.exchanges)
      (breaks-more old w1 w2 (before ++ replies a.exchanges) p1 (replies b.exchanges) a.adds b.breaks);
}

-- nothing is skipped now
pub none-skipped : (most : ℕ) (w : Option (List ℕ)) (p bytes part : List ℕ) (left : ℕ) (s : StoreState) → IsSkipped most part left
    → AnswersPackets most (between w w) p p (part ++ bytes) bytes left s s
none-skipped most w p bytes part left s is = record {
  exchanges = [];
  part = part;
  run = refl;
  parts = refl;
  adds = subst (λ (k : List ℕ). Sends (between w w) k p) (sym (append-nil p)) (sends-none w p);
  skipped = is;
}

-- these bytes are skipped, and more are left to be
skipped-more : (most : ℕ) (part bytes : List ℕ) (left more : ℕ) → IsSkipped most part left → 0 < more → length bytes + more ≡ left → IsSkipped most (part ++ bytes) more
skipped-more most part bytes left more (inl none) some is =
    let zero = none.0 in
    absurd (omega (arith, some, is, zero))
skipped-more most part bytes left more (inr long) some is =
    let before = long.0 in
    let over = long.2 in
    let few = long.3 in
    let both = length-append before bytes in
    let same : length (before ++ bytes) + more ≡ length before + left = omega (arith, both, is) in
    inr (
      before ++ bytes,
      ap (λ k. k ++ bytes) long.1 ∙ append_assoc (big4 (length before + left)) before bytes ∙ ap (λ n. big4 n ++ (before ++ bytes)) (sym same),
      omega (arith, over, same),
      omega (arith, few, same),
      some,
    )

pub part-skipped : (most : ℕ) (w : Option (List ℕ)) (p bytes part : List ℕ) (left more : ℕ) (s : StoreState) → IsSkipped most part left → 0 < more → length bytes + more ≡ left
    → AnswersPackets most (between w w) p p (part ++ bytes) [] more s s
part-skipped most w p bytes part left more s skipped some is = record {
  exchanges = [];
  part = part ++ bytes;
  run = refl;
  parts = sym (append-nil (part ++ bytes));
  adds = subst (λ (k : List ℕ). Sends (between w w) k p) (sym (append-nil p)) (sends-none w p);
  skipped = skipped-more most part bytes left more skipped some is;
}

-- the reply to a packet that is too long
abbrev pub refusal : PacketReply
refusal = packet_reply 5 (codes "the packet is too long")

-- a packet that is too long: what was skipped of it, and its last bytes
record IsLongPacket (most : ℕ) (part bytes : List ℕ) (left : ℕ) : Type 0 where
  body : List ℕ
  long : most < length body
  few : length body < 2 ^ 32
  parts : part ++ bytes ≡ packet body ++ drop left bytes

long-packet : (most : ℕ) (part bytes : List ℕ) (left : ℕ) → IsSkipped most part left → 0 < left → left ≤ length bytes → IsLongPacket most part bytes left
long-packet most part bytes left (inl none) some all =
    let zero = none.0 in
    absurd (omega (arith, some, zero))
long-packet most part bytes left (inr long) some all =
    let before = long.0 in
    let over = long.2 in
    let few = long.3 in
    let body = before ++ take left bytes in
    let both = length-append before (take left bytes) in
    let taken = length-take-le left bytes all in
    let same : length body ≡ length before + left = omega (arith, both, taken) in
    record {
      body = body;
      long = omega (arith, over, same);
      few = omega (arith, few, same);
      parts =
          ap (λ k. part ++ k) (sym (take-append-drop left bytes))
          ∙ ap (λ k. k ++ (take left bytes ++ drop left bytes)) (long.1 ∙ ap (λ n. big4 n ++ before) (sym same))
          ∙ append_assoc (big4 (length body)) before (take left bytes ++ drop left bytes)
          ∙ ap (λ k. big4 (length body) ++ k) (sym (append_assoc before (take left bytes) (drop left bytes)))
          ∙ sym (append_assoc (big4 (length body)) body (drop left bytes));
    }

refusal-run : (most : ℕ) (body : List ℕ) (s : StoreState) → most < length body → length body < 2 ^ 32 → Run most s (one body refusal) s
refusal-run most body s long few = run-one most body refusal s s (inr (long, (refl, (refl, inl refl)))) few (omega arith)

long-parts : (most : ℕ) (part bytes : List ℕ) (left : ℕ) (l : IsLongPacket most part bytes left) → part ++ bytes ≡ requests (one l.body refusal) ++ drop left bytes
long-parts most part bytes left l = l.parts ∙ ap (λ k. k ++ drop left bytes) (sym (append-nil (packet l.body)))

-- a body that is too long is skipped to its end, and refused
pub body-skipped : (most : ℕ) (w1 w2 : Option (List ℕ)) (p1 p2 bytes part : List ℕ) (left : ℕ) (s : StoreState) → IsSkipped most part left → 0 < left → left ≤ length bytes
    → Sends (between w1 w2) (p1 ++ packet (reply_body refusal)) p2 → AnswersPackets most (between w1 w2) p1 p2 (part ++ bytes) (drop left bytes) 0 s s
body-skipped most w1 w2 p1 p2 bytes part left s skipped some all sends =
    let l = long-packet most part bytes left skipped some all in
    record {
      exchanges = one l.body refusal;
      part = [];
      run = refusal-run most l.body s l.long l.few;
      parts = long-parts most part bytes left l;
      adds = subst (λ (k : List ℕ). Sends (between w1 w2) (p1 ++ k) p2) (sym (append-nil (packet (reply_body refusal)))) sends;
      skipped = inl (refl, refl);
    }

-- the same, and the writer fails
pub body-broken : (most : ℕ) (w1 w2 : Option (List ℕ)) (p1 bytes part : List ℕ) (left : ℕ) (s : StoreState) → IsSkipped most part left → 0 < left → left ≤ length bytes
    → Breaks (between w1 w2) (p1 ++ packet (reply_body refusal)) → BreaksPackets most (between w1 w2) p1 (part ++ bytes) s
body-broken most w1 w2 p1 bytes part left s skipped some all breaks =
    let l = long-packet most part bytes left skipped some all in
    record {
      exchanges = one l.body refusal;
      end = s;
      rest = drop left bytes;
      run = refusal-run most l.body s l.long l.few;
      parts = long-parts most part bytes left l;
      breaks = subst (λ (k : List ℕ). Breaks (between w1 w2) (p1 ++ k)) (sym (append-nil (packet (reply_body refusal)))) breaks;
    }

-- the length of a body that is too long begins the bytes, and is skipped
pub length-skipped : (most : ℕ) (bytes : List ℕ) (len : ℕ) → BeginsTooLong most bytes len → (part : List ℕ) × IsSkipped most part len × (part ++ drop 4 bytes ≡ bytes)
length-skipped most bytes len f =
    let long = f.long in
    let few = f.few in
    let same : length {A = ℕ} [] + len ≡ len = omega arith in (
      big4 len,
      inr ([], sym (append-nil (big4 len)) ∙ ap (λ n. big4 n ++ []) (sym same), omega (arith, long, same), omega (arith, few, same), omega (arith, long)),
      ap (λ k. k ++ drop 4 bytes) (sym f.is_length) ∙ take-append-drop 4 bytes,
    )

-- all bytes were dropped
pub all-dropped : (bytes shown rest : List ℕ) → shown ≡ bytes → rest ≡ drop (length shown) bytes → rest ≡ []
all-dropped bytes shown rest same is =
    nil_from_length rest (omega (arith, ap length is, length-drop (length shown) bytes, ap length same))

-- nothing is skipped, and a part of a packet follows
pub then-unfinished : (most : ℕ) (writer : Flow) (before after bytes rest : List ℕ) (left : ℕ) (old new : StoreState) → AnswersPackets most writer before after bytes rest left old new → left ≡ 0 → IsUnfinished rest
    → AnswersAllPackets most writer before after bytes rest 0 old new
then-unfinished most writer before after bytes rest left old new a none unfinished = record {
  answered = record {
    exchanges = a.exchanges;
    part = [];
    run = a.run;
    parts = a.parts ∙ ap (λ k. requests a.exchanges ++ (k ++ rest)) (no-part most a.part left a.skipped none);
    adds = a.adds;
    skipped = inl (refl, refl);
  };
  unfinished = unfinished;
}

-- the rest of a body is still to be skipped
pub then-skipped : (most : ℕ) (writer : Flow) (before after bytes rest : List ℕ) (left : ℕ) (old new : StoreState) → AnswersPackets most writer before after bytes rest left old new → 0 < left → rest ≡ []
    → AnswersAllPackets most writer before after bytes rest left old new
then-skipped most writer before after bytes rest left old new a some none = record {
  answered = a;
  unfinished = subst IsUnfinished (sym (ap (λ k. a.part ++ k) none ∙ append-nil a.part)) (skipped-unfinished most a.part left a.skipped some);
}
