use Rattle.std.proofs.Common.{rules, ◌≡◌, ℕ, ℤ, Ok, inl, sym, subst, w32, to_z, of_z}
use Rattle.external_term.specs.Encoding.{encode_with_version}
use Rattle.node_text.specs.declared.external_call.ExternalCall.{ExternalCall}
use Rattle.node_text.specs.declared.external_call.ExternalCall.TheVariants.{Call, Faulty}
use Rattle.node_text.specs.ExternalCalls as external
use Rattle.node_text.specs.Answers.{WrittenReply, written_reply, WritesReply}
use Rattle.node_text.specs.Calls.{ExternalCallReturns}
use Rattle.node_text.specs.RunsCall.{RunsExternalCall}
use Rattle.node_text.specs.StoreState.{StoreState}
use Rattle.node_text.proofs.store.Store.call_external.Goals as goal

-- a call that was done, and then its reply
call-replied : (what : ExternalCall) (pid : ℕ) (old new : StoreState) (t : WrittenReply)
    → RunsExternalCall what pid old (Ok (tt {0})) new → WritesReply encode_with_version new.reply t → ExternalCallReturns what pid t old new
call-replied (Call name args) pid old new t runs writes = inl (runs, writes)
call-replied (Faulty problem at) pid old new t runs writes = absurd runs

pub returns-in-Ok : goal.returns-in-Ok
returns-in-Ok c =
    let parsed : ExternalCall = external.parse_call c.args.bytes.now in
    let runs : RunsExternalCall parsed c.args.pid c.args.self.now (Ok (tt {0})) c.write_reply_external.new.self =
    subst (λ (new : StoreState). RunsExternalCall parsed c.args.pid c.args.self.now (Ok (tt {0})) new) (sym c.write_reply_external.ensures.same) c.in-Ok.ensures in
    let status : to_z w32 (of_z w32 c.write_reply_external.result) ≡ c.write_reply_external.result = search rules in
    let written_by : ℤ → WrittenReply = λ status. written_reply status c.write_reply_external.new.len c.args.out.now c.write_reply_external.new.out in
    let writes : WritesReply encode_with_version c.write_reply_external.new.self.reply (written_by c.write_reply_external.result) =
    subst (λ (new : StoreState). WritesReply encode_with_version new.reply (written_by c.write_reply_external.result)) (sym c.write_reply_external.ensures.same) c.write_reply_external.ensures.writes in
    call-replied parsed c.args.pid c.args.self.now c.write_reply_external.new.self _ runs
    (subst (λ (s : ℤ). WritesReply encode_with_version c.write_reply_external.new.self.reply (written_by s)) (sym status) writes)
