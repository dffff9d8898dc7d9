mod SentWork
