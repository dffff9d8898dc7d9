-- A run of packets on its way: the exchanges so far, and the bytes that are buffered.
use Rattle.std.proofs.Common.{◌≡◌, ◌⊎◌, ℕ, ◌<◌, List, [], ◌++◌, length, refl, sym, ap, ◌∙◌, subst, arith, Option, append-nil, append_assoc, inl, inr}
use Rattle.std.specs.Prelude.{Result, Ok, Err, OnOk, IfErr}
use Rattle.std.specs.Io.KnownBytes.{Appends, Consumes, Keeps}
use Rattle.std.proofs.lemmas.List.{length-append, nil_from_length}
use Rattle.node_text.specs.StoreState.{StoreState}
use Rattle.ets_packets.specs.Packets.{IsUnfinished}
use Rattle.ets_packets.specs.Exchanges.{Exchange, Run, requests, replies}
use Rattle.ets_packets.specs.Stops.{AnswersAll, Completes, Stops}
use Rattle.ets_packets.specs.Traffic.{Traffic, traffic}
use Rattle.ets_packets.specs.declared.fault.PacketFault.{PacketFault}
use Rattle.ets_packets.specs.declared.fault.PacketFault.TheVariants as faults
use Rattle.ets_packets.specs.inside.Answering.{AnswersPackets, BreaksPackets, EndsAfter, IsSkipped}
use Rattle.ets_packets.specs.inside.Buffer.{Refills, RefillStops, fault_of}
use Rattle.ets_packets.specs.declared.buffer.RefillFault.{RefillFault}
use Rattle.ets_packets.specs.declared.buffer.RefillFault.TheVariants as refill
use Rattle.ets_packets.specs.Output.{Sends, Breaks}
use Rattle.ets_packets.proofs.BufferedPackets.{no-part, some-part}
use Rattle.ets_packets.proofs.Exchanges.{run-join, requests-join, replies-join}
use Rattle.ets_packets.proofs.KnownBytes.{between, appends-more, appends-same, consumes-more, kept-left, same-known, sends-on, breaks-on}

abbrev pub passed : Option (List ℕ) → Option (List ℕ) → Option (List ℕ) → Option (List ℕ) → Traffic
passed before left old new = traffic (between before left) (between old new)

-- all replies so far are written, and the bytes that are skipped and buffered are a part of a packet
pub record Progress (most : ℕ) (start : StoreState) (t : Traffic) (buffered : List ℕ) (left : ℕ) (now : StoreState) : Type 0 where
  pub part : List ℕ
  pub answered : AnswersAll most start t (part ++ buffered)
  pub end : answered.end ≡ now
  pub skipped : IsSkipped most part left
  pub unfinished : IsUnfinished (part ++ buffered)

pub progress-start : (most : ℕ) (s : StoreState) (left w : Option (List ℕ)) (buffered : List ℕ) → buffered ≡ [] → Progress most s (passed left left w w) buffered 0 s
progress-start most s left w buffered empty = record {
  part = [];
  answered = record {
    exchanges = [];
    end = s;
    run = refl;
    consumed = subst (λ (k : List ℕ). Consumes left left k) (sym empty) (same-known left);
    written = appends-same w;
  };
  end = refl;
  skipped = inl (refl, refl);
  unfinished = inl (subst (λ (k : List ℕ). length k < 4) (sym empty) (omega arith));
}

pub answered-kept : (most : ℕ) (start : StoreState) (before l m old new : Option (List ℕ)) (part : List ℕ) → AnswersAll most start (passed before l old new) part → Keeps l m → AnswersAll most start (passed before m old new) part
answered-kept most start before l m old new part a kept = record {
  exchanges = a.exchanges;
  end = a.end;
  run = a.run;
  consumed = kept-left before l m (requests a.exchanges ++ part) a.consumed kept;
  written = a.written;
}

pub answered-more : (most : ℕ) (start : StoreState) (before l m old new : Option (List ℕ)) (part more : List ℕ) → AnswersAll most start (passed before l old new) part → Consumes l m more → AnswersAll most start (passed before m old new) (part ++ more)
answered-more most start before l m old new part more a p = record {
  exchanges = a.exchanges;
  end = a.end;
  run = a.run;
  consumed = subst (λ (k : List ℕ). Consumes before m k) (append_assoc (requests a.exchanges) part more) (consumes-more before l m (requests a.exchanges ++ part) more a.consumed p);
  written = a.written;
}

-- nothing more was read
pub nothing-added : (h1 h2 : List ℕ) (l m : Option (List ℕ)) (n : ℕ) → Refills h1 h2 (between l m) n → n ≡ 0 → h2 ≡ h1
nothing-added h1 h2 l m n r z = r.added ∙ ap (λ k. h1 ++ k) (nil_from_length r.more (r.counted ∙ z)) ∙ append-nil h1

-- more was read
pub refilled : (most : ℕ) (start now : StoreState) (before l m old new : Option (List ℕ)) (h1 h2 : List ℕ) (left n : ℕ) → (g : Progress most start (passed before l old new) h1 left now) → Refills h1 h2 (between l m) n
    → (a : AnswersAll most start (passed before m old new) (g.part ++ h2)) × (a.end ≡ now)
refilled most start now before l m old new h1 h2 left n g r =
    let a = g.answered in
    let part = g.part in (
      record {
        exchanges = a.exchanges;
        end = a.end;
        run = a.run;
        consumed = subst (λ (k : List ℕ). Consumes before m k)
            (append_assoc (requests a.exchanges) (part ++ h1) r.more ∙ ap (λ k. requests a.exchanges ++ k) (append_assoc part h1 r.more ∙ ap (λ k. part ++ k) (sym r.added)))
            (consumes-more before l m (requests a.exchanges ++ (part ++ h1)) r.more a.consumed r.consumed);
        written = a.written;
      },
      g.end,
    )

-- the input ended
pub run-completes : (most : ℕ) (start now : StoreState) (before l m old new : Option (List ℕ)) (h1 h2 : List ℕ) (left n : ℕ) → Progress most start (passed before l old new) h1 left now → Refills h1 h2 (between l m) n → n ≡ 0 → left ≡ 0 → h2 ≡ []
    → Completes most start (passed before m old new)
run-completes most start now before l m old new h1 h2 left n g r z none empty =
    let whole : g.part ++ h2 ≡ [] = ap (λ k. k ++ h2) (no-part most g.part left g.skipped none) ∙ empty in
    (subst (λ (k : List ℕ). AnswersAll most start (passed before m old new) k) whole (refilled most start now before l m old new h1 h2 left n g r).0, r.end z)

some-left : (most : ℕ) (part h : List ℕ) (left : ℕ) → IsSkipped most part left → (0 < left) ⊎ (0 < length h) → 0 < length (part ++ h)
some-left most part h left skipped (inl some) =
    let before = some-part most part left skipped some in
    omega (arith, before, length-append part h)
some-left most part h left skipped (inr some) = omega (arith, some, length-append part h)

pub run-truncated : (most : ℕ) (start now : StoreState) (before l m old new : Option (List ℕ)) (h1 h2 : List ℕ) (left n : ℕ) → Progress most start (passed before l old new) h1 left now → Refills h1 h2 (between l m) n → n ≡ 0 → (0 < left) ⊎ (0 < length h2)
    → Stops most start (passed before m old new) faults.Truncated
run-truncated most start now before l m old new h1 h2 left n g r z some = (
  g.part ++ h2,
  (refilled most start now before l m old new h1 h2 left n g r).0,
  subst (λ (k : List ℕ). IsUnfinished (g.part ++ k)) (sym (nothing-added h1 h2 l m n r z)) g.unfinished,
  some-left most g.part h2 left g.skipped some,
  r.end z,
)

-- what the end of the input means
pub end-ok : (most : ℕ) (start now : StoreState) (before l m old new : Option (List ℕ)) (h1 h2 : List ℕ) (left n : ℕ) (r : Result (Unit {0}) PacketFault) → Progress most start (passed before l old new) h1 left now → Refills h1 h2 (between l m) n → n ≡ 0 → EndsAfter left h2 r
    → OnOk r (Completes most start (passed before m old new))
end-ok most start now before l m old new h1 h2 left n (Ok done) g r z ends = run-completes most start now before l m old new h1 h2 left n g r z ends.0 ends.1
end-ok most start now before l m old new h1 h2 left n (Err fault) g r z ends = tt

pub end-err : (most : ℕ) (start now : StoreState) (before l m old new : Option (List ℕ)) (h1 h2 : List ℕ) (left n : ℕ) (r : Result (Unit {0}) PacketFault) → Progress most start (passed before l old new) h1 left now → Refills h1 h2 (between l m) n → n ≡ 0 → EndsAfter left h2 r
    → IfErr r (Stops most start (passed before m old new))
end-err most start now before l m old new h1 h2 left n (Ok done) g r z ends = tt
end-err most start now before l m old new h1 h2 left n (Err fault) g r z ends =
    subst (Stops most start (passed before m old new)) (sym ends.0) (run-truncated most start now before l m old new h1 h2 left n g r z ends.1)

-- the reader failed
pub read-stops : (most : ℕ) (start now : StoreState) (before l m old new : Option (List ℕ)) (buffered : List ℕ) (left : ℕ) → Progress most start (passed before l old new) buffered left now → Keeps l m → Stops most start (passed before m old new) faults.Read
read-stops most start now before l m old new buffered left g kept =
    (g.part ++ buffered, answered-kept most start before l m old new (g.part ++ buffered) g.answered kept, g.unfinished)

-- memory ran out for what was read
pub memory-stops : (most : ℕ) (start now : StoreState) (before l m old new : Option (List ℕ)) (buffered more : List ℕ) (left : ℕ) → Progress most start (passed before l old new) buffered left now → Consumes l m more → Stops most start (passed before m old new) faults.Memory
memory-stops most start now before l m old new buffered more left g p =
    ((g.part ++ buffered) ++ more, answered-more most start before l m old new (g.part ++ buffered) more g.answered p)

pub refill-stops : (most : ℕ) (start now : StoreState) (before l m old new : Option (List ℕ)) (buffered : List ℕ) (left : ℕ) (fault : RefillFault) → Progress most start (passed before l old new) buffered left now → RefillStops (between l m) fault
    → Stops most start (passed before m old new) (fault_of fault)
refill-stops most start now before l m old new buffered left refill.Read g kept = read-stops most start now before l m old new buffered left g kept
refill-stops most start now before l m old new buffered left refill.Memory g (more, p) = memory-stops most start now before l m old new buffered more left g p

-- or at the start
pub not-begun : (most : ℕ) (start : StoreState) (before old : Option (List ℕ)) → Stops most start (passed before before old old) faults.Memory
not-begun most start before old =
    ([], record { exchanges = []; end = start; run = refl; consumed = same-known before; written = appends-same old })

-- more packets are answered after the earlier ones
joined-consumed : (most : ℕ) (start : StoreState) (before m old w : Option (List ℕ)) (bytes rest : List ℕ) (fs : List Exchange) (a : AnswersAll most start (passed before m old w) bytes) → bytes ≡ requests fs ++ rest
    → Consumes before m (requests (a.exchanges ++ fs) ++ rest)
joined-consumed most start before m old w bytes rest fs a parts =
    subst (λ (k : List ℕ). Consumes before m k)
    (ap (λ k. requests a.exchanges ++ k) parts ∙ sym (append_assoc (requests a.exchanges) (requests fs) rest) ∙ ap (λ k. k ++ rest) (sym (requests-join a.exchanges fs)))
    a.consumed

-- and the writer failed
pub write-stops : (most : ℕ) (start s1 : StoreState) (before m old w1 w2 : Option (List ℕ)) (bytes p : List ℕ) (g : AnswersAll most start (passed before m old w1) bytes) → g.end ≡ s1 → p ≡ [] → BreaksPackets most (between w1 w2) p bytes s1
    → Stops most start (passed before m old w2) faults.Write
write-stops most start s1 before m old w1 w2 bytes p a is none b =
    let breaks = subst (λ (k : List ℕ). Breaks (between w1 w2) (k ++ replies b.exchanges)) none b.breaks in
    record {
      exchanges = a.exchanges ++ b.exchanges;
      end = b.end;
      rest = b.rest;
      sent = replies a.exchanges ++ breaks.sent;
      unsent = breaks.unsent;
      run = run-join most a.exchanges b.exchanges start s1 b.end (subst (λ (s : StoreState). Run most start a.exchanges s) is a.run) b.run;
      consumed = joined-consumed most start before m old w1 bytes b.rest b.exchanges a b.parts;
      written = appends-more old w1 w2 (replies a.exchanges) breaks.sent a.written breaks.written;
      parts = replies-join a.exchanges b.exchanges ∙ ap (λ k. replies a.exchanges ++ k) breaks.parts ∙ sym (append_assoc (replies a.exchanges) breaks.sent breaks.unsent);
    }

-- the flush failed after packets were answered
pub flush-stops : (most : ℕ) (start s1 s2 : StoreState) (before m old w1 w2 w3 : Option (List ℕ)) (bytes rest p1 p2 : List ℕ) (left : ℕ) (g : AnswersAll most start (passed before m old w1) bytes) → g.end ≡ s1 → p1 ≡ []
    → AnswersPackets most (between w1 w2) p1 p2 bytes rest left s1 s2 → Breaks (between w2 w3) p2 → Stops most start (passed before m old w3) faults.Write
flush-stops most start s1 s2 before m old w1 w2 w3 bytes rest p1 p2 left a is none h b =
    write-stops most start s1 before m old w1 w3 bytes p1 a is none
    (record { exchanges = h.exchanges; end = s2; rest = h.part ++ rest; run = h.run; parts = h.parts; breaks = breaks-on w1 w2 w3 (p1 ++ replies h.exchanges) p2 h.adds b })

-- packets were answered, and all replies were written
pub all-answered : (most : ℕ) (start s1 s2 : StoreState) (before m old w1 w2 w3 : Option (List ℕ)) (bytes rest p1 p2 p3 : List ℕ) (left : ℕ) (g : AnswersAll most start (passed before m old w1) bytes) → g.end ≡ s1 → p1 ≡ []
    → (h : AnswersPackets most (between w1 w2) p1 p2 bytes rest left s1 s2) → Sends (between w2 w3) p2 p3 → p3 ≡ [] → (a : AnswersAll most start (passed before m old w3) (h.part ++ rest)) × (a.end ≡ s2)
all-answered most start s1 s2 before m old w1 w2 w3 bytes rest p1 p2 p3 left a is none h sent empty =
    let whole = sends-on w1 w2 w3 (p1 ++ replies h.exchanges) p2 p3 h.adds sent in
    let all : replies h.exchanges ≡ whole.sent = ap (λ k. k ++ replies h.exchanges) (sym none) ∙ whole.parts ∙ ap (λ k. whole.sent ++ k) empty ∙ append-nil whole.sent in (
      record {
        exchanges = a.exchanges ++ h.exchanges;
        end = s2;
        run = run-join most a.exchanges h.exchanges start s1 s2 (subst (λ (s : StoreState). Run most start a.exchanges s) is a.run) h.run;
        consumed = joined-consumed most start before m old w1 bytes (h.part ++ rest) h.exchanges a h.parts;
        written = subst (λ (k : List ℕ). Appends old w3 k) (ap (λ k. replies a.exchanges ++ k) (sym all) ∙ sym (replies-join a.exchanges h.exchanges)) (appends-more old w1 w3 (replies a.exchanges) whole.sent a.written whole.written);
      },
      refl,
    )
